-- Readers of attributes take what the relations say, and no more.
use Rattle.std.proofs.Common.{◌≡◌, ◌≢◌, ◌∙◌, refl, sym, ap, subst, ℕ, zero, suc, ◌<◌, ◌==◌, nat_lt, append_assoc, append-nil, List, [], ◌∷◌, ◌++◌, Bool, true, false, length, arith, Option, Some, None, Ok, Err, option_map, if◌then◌else◌, inl, inr}
use Rattle.std.specs.Prelude.{bytes_eq, ◌&&◌, ◌-◌}
use Rattle.std.specs.List.{list_all}
use Rattle.std.specs.Result.{result_ok}
use Rattle.std.specs.Str.{is_utf8}
use Rattle.std.specs.Int.Digits.{AllBelowBase}
use Rattle.std.proofs.lemmas.Bool.{and_parts, lt-ltb}
use Rattle.std.proofs.lemmas.Bool.Decides.{nat_tests}
use Rattle.std.proofs.lemmas.Slice.Eq.{bytes_eq-Decides}
use Rattle.std.proofs.lemmas.Str.{IsUtf8-from_is_utf8, is_utf8-from_IsUtf8}
use Rattle.asn1_core.proofs.Cases.{chosen}
use Rattle.asn1_core.proofs.Numbers.{append_below}
use Rattle.asn1_core.specs.Answers.{Answer as Reads}
use Rattle.asn1_core.specs.Elements.{Element}
use Rattle.asn1_any.specs.BerElements.{BerElement, IsWithin, Closes, BeginsWithBerElement, element_of_ber}
use Rattle.asn1_any.specs.Cutting.{Piece}
use Rattle.asn1_any.specs.Reading.{ber_element_at}
use Rattle.asn1_any.specs.declared.read.TheConstants.{MAX_RECURSION}
use Rattle.asn1_any.proofs.BerReading.{ber_found, ber_only}
use Rattle.asn1_any.proofs.Cuts.{front_is}
use Rattle.asn1_any.proofs.Long.{ber_element_takes}
use Rattle.asn1_strings.specs.Charsets.{is_printable}
use Rattle.x509_core.specs.Answers.{Answer, unnamed, plain, naming, ◌>>=◌}
use Rattle.x509_core.specs.Grammar.{Grammar, NoneBegins, One, Holds, AsMany, ToEnd}
use Rattle.x509_core.specs.Reading.{Reader, front_header_at, oid_in, many_of, many_within, many_after}
use Rattle.x509_core.specs.declared.error.X509Error.TheVariants as errors
use Rattle.x509_core.proofs.Grammars.{IsMeaning, IsReading, next_reading, two, was_named}
use Rattle.x509_core.proofs.Many.{with_front, many_step, many_more, many_stops}
use Rattle.x509_names.specs.Leaves.{IsOid}
use Rattle.x509_names.specs.Reading.{oid_at, window_to}
use Rattle.x509_names.proofs.FrontLaws.{named_reading}
use Rattle.x509_names.proofs.LeafLaws.{oid_meaning}
use Rattle.x509_ext.specs.Extensions.{X509Extension}
use Rattle.x509_ext.specs.Fields.{ValueMeaning, ValueReading}
use Rattle.x509_ext.specs.Reading.{to_end, extension_list_in}
use Rattle.x509_ext.proofs.ExtensionLaws.{IsValueLaw, list_meaning, front_header_found, front_header_only}
use Rattle.x509_requests.specs.Fields.{AttributeValues, extension_request, challenge_password, unsupported_attribute, RequestAttribute}
use Rattle.x509_requests.specs.Identifiers.{extension_request_id, challenge_password_id}
use Rattle.x509_requests.specs.Reading.{requested_at, text_of, password_in, password_at, values_at, set_behind, attribute_parts_in, attribute_in, attribute_at, named_attribute_at, all_attributes_at, attributes_behind, attributes_at}
use Rattle.x509_requests.specs.Requests.{ExtensionRequest, IsPassword, utf8, printable, Values, extensions, password, other, AttributeParts, IsAttribute, X509CriAttribute, Attributes}

equal_tags : (a b : ℕ) → (a == b) ≡ true → a ≡ b
equal_tags a b e = grind (arith, nat_tests)

tags_equal : (a b : ℕ) → a ≡ b → (a == b) ≡ true
tags_equal a b e = grind (arith, nat_tests)

other_number : (a b c : ℕ) → a ≡ c → (c == b) ≡ false → (a == b) ≡ false
other_number a b c same differ = subst (λ z. (z == b) ≡ false) (sym same) differ

octets_are : (a b : List ℕ) → bytes_eq a b ≡ true → a ≡ b
octets_are a b given = (bytes_eq-Decides a b).0 given

are_octets : (a b : List ℕ) → a ≡ b → bytes_eq a b ≡ true
are_octets a b given = (bytes_eq-Decides a b).1 given

octets_differ : (a b : List ℕ) → bytes_eq a b ≡ false → a ≢ b
octets_differ a b given same = let is = (bytes_eq-Decides a b).1 same in cc

octets_test_false : (a b : List ℕ) → a ≢ b → bytes_eq a b ≡ false
octets_test_false a b differ = by (bytes_eq a b) refl
  where
    by : (t : Bool) → bytes_eq a b ≡ t → bytes_eq a b ≡ false
    by true is = absurd (differ (octets_are a b is))
    by false is = is

-- ---- passwords

text_found : (tests : List ℕ → Bool) (content v : List ℕ) → text_of tests content ≡ Ok v → (v ≡ content) × (tests content ≡ true)
text_found tests content v given =
    elim (chosen (tests content) _ _ _ given) [
      | inl passed ↦ let same : content ≡ v = let is = passed.1 in cc in (sym same, passed.0)
      | inr failed ↦ let wrong = failed.1 in cc
    ]

password_found : (q : Piece) (v : List ℕ) → password_in q.element ≡ Ok v → IsPassword q v
unfolding password_in
password_found q v given =
    elim (chosen q.element.constructed _ _ _ given) [
      | inl built ↦ let wrong = built.1 in cc
      | inr simple ↦ elim (chosen (q.element.tag == 12) _ _ _ simple.1) [
        | inl first ↦
            let text = text_found is_utf8 q.element.content v first.1 in
            utf8 (record { leaf = record { tag_is = equal_tags q.element.tag 12 first.0; primitive = simple.0 }; meant = (text.0, IsUtf8-from_is_utf8 q.element.content text.1) })
        | inr rest ↦ elim (chosen (q.element.tag == 19) _ _ _ rest.1) [
          | inl second ↦
              let text = text_found (list_all is_printable) q.element.content v second.1 in
              printable (record { leaf = record { tag_is = equal_tags q.element.tag 19 second.0; primitive = simple.0 }; meant = (text.0, text.1) })
          | inr last ↦ let wrong = last.1 in cc
        ]
      ]
    ]

password_only : (q : Piece) (v : List ℕ) → IsPassword q v → password_in q.element ≡ Ok v
unfolding password_in
password_only q v (utf8 is) =
    let passed = is_utf8-from_IsUtf8 q.element.content is.meant.1 in
    rw (is.leaf.primitive, tags_equal q.element.tag 12 is.leaf.tag_is, passed) (ap (λ z. Ok z) (sym is.meant.0))
password_only q v (printable is) =
    let passed : list_all is_printable q.element.content ≡ true = is.meant.1 in
    rw (is.leaf.primitive, other_number q.element.tag 12 19 is.leaf.tag_is refl, tags_equal q.element.tag 19 is.leaf.tag_is, passed) (ap (λ z. Ok z) (sym is.meant.0))

password_meaning : IsMeaning IsPassword (λ q. password_in q.element)
password_meaning = record { found = λ q v spells below given. password_found q v given; only = λ q v spells below is. password_only q v is }

passwords : IsReading (One IsPassword) password_at
passwords = next_reading IsPassword (λ q. password_in q.element) password_meaning

pub requested_reading : (Means : ValueMeaning) (parse : ValueReading) → IsValueLaw Means parse → IsReading (ExtensionRequest Means) (requested_at parse)
requested_reading Means parse law = next_reading (Holds 16 (ToEnd (X509Extension Means))) (λ q. extension_list_in parse q.element) (list_meaning Means parse law)

-- ---- values

values_found : (Means : ValueMeaning) (parse : ValueReading) → IsValueLaw Means parse → (id i : List ℕ) (v : AttributeValues) (r : List ℕ) → AllBelowBase 256 i → values_at parse id i ≡ Ok (v, r) → Values Means id i v r × AllBelowBase 256 r
unfolding values_at
values_found Means parse law id i v r below given =
    elim (chosen (bytes_eq id extension_request_id) _ _ _ given) [
      | inl first ↦
          let step = two (requested_at parse i) _ (v, r) first.1 in
          let is = (requested_reading Means parse law).found i step.0.0 step.0.1 below step.1 in
          let both : ◌≡◌ {A = AttributeValues × List ℕ} (extension_request step.0.0, step.0.1) (v, r) = cc in
          subst (λ (z : AttributeValues × List ℕ). Values Means id i z.0 z.1 × AllBelowBase 256 z.1) both (extensions step.0.0 (octets_are id extension_request_id first.0) refl is.0, is.1)
      | inr not_first ↦ elim (chosen (bytes_eq id challenge_password_id) _ _ _ not_first.1) [
        | inl second ↦
            let step = two (password_at i) _ (v, r) second.1 in
            let is = passwords.found i step.0.0 step.0.1 below step.1 in
            let both : ◌≡◌ {A = AttributeValues × List ℕ} (challenge_password step.0.0, step.0.1) (v, r) = cc in
            subst (λ (z : AttributeValues × List ℕ). Values Means id i z.0 z.1 × AllBelowBase 256 z.1) both (password step.0.0 (octets_are id challenge_password_id second.0) refl is.0, is.1)
        | inr neither ↦
            let both : ◌≡◌ {A = AttributeValues × List ℕ} (unsupported_attribute, i) (v, r) = let is = neither.1 in cc in
            subst (λ (z : AttributeValues × List ℕ). Values Means id i z.0 z.1 × AllBelowBase 256 z.1) both
            (other (octets_differ id extension_request_id not_first.0) (octets_differ id challenge_password_id neither.0) refl refl, below)
      ]
    ]

values_only : (Means : ValueMeaning) (parse : ValueReading) → IsValueLaw Means parse → (id i : List ℕ) (v : AttributeValues) (r : List ℕ) → AllBelowBase 256 i → Values Means id i v r → values_at parse id i ≡ Ok (v, r)
unfolding values_at
values_only Means parse law id i v r below (extensions es same value is) =
    let read = (requested_reading Means parse law).only i es r below is in
    rw (are_octets id extension_request_id same, read, value) refl
values_only Means parse law id i v r below (password text same value is) =
    let read = passwords.only i text r below is in
    let first : bytes_eq id extension_request_id ≡ false = subst (λ z. bytes_eq z extension_request_id ≡ false) (sym same) refl in
    rw (first, are_octets id challenge_password_id same, read, value) refl
values_only Means parse law id i v r below (other first second value rest) =
    rw (octets_test_false id extension_request_id first, octets_test_false id challenge_password_id second, value, rest) refl

-- what was read of them goes before what is left
values_front : (Means : ValueMeaning) (id i : List ℕ) (v : AttributeValues) (r : List ℕ) → Values Means id i v r → (front : List ℕ) × (i ≡ front ++ r)
values_front Means id i v r (extensions es same value is) = (is.piece.octets, is.whole)
values_front Means id i v r (password text same value is) = (is.piece.octets, is.whole)
values_front Means id i v r (other first second value rest) = ([], sym rest)

-- ---- an attribute

oids : IsReading (One IsOid) oid_at
oids = next_reading IsOid (λ p. oid_in p.element) oid_meaning

window_found : (o header after front left : List ℕ) → o ≡ header ++ after → after ≡ front ++ left → o ≡ window_to o left ++ left
window_found o header after front left whole rest =
    let split : o ≡ (header ++ front) ++ left = whole ∙ ap (λ z. header ++ z) rest ∙ sym (append_assoc header front left) in
    split ∙ ap (λ z. z ++ left) (sym (front_is o (header ++ front) left split))

parts_found : (Means : ValueMeaning) (parse : ValueReading) → IsValueLaw Means parse → (content : List ℕ) (a : RequestAttribute) → AllBelowBase 256 content → attribute_parts_in parse content ≡ Ok a → (left : List ℕ) × AttributeParts Means content a left
unfolding attribute_parts_in
parts_found Means parse law content a below given =
    let s1 = two (oid_at content) _ a given in
    let p1 = oids.found content s1.0.0 s1.0.1 below s1.1 in
    let s2 = two (front_header_at s1.0.1) _ a s1.2 in
    let p2 = front_header_found s1.0.1 s2.0.0 s2.0.1 p1.1 s2.1 in
    let s3 = two (set_behind parse s1.0.0 s2.0) _ a s2.2 in
    elim (chosen (s2.0.0.tag == 17) _ _ _ s3.1) [
      | inl same ↦
          let p3 = values_found Means parse law s1.0.0 s2.0.1 s3.0.0 s3.0.1 p2.1 same.1 in
          let front = values_front Means s1.0.0 s2.0.1 s3.0.0 s3.0.1 p3.0 in
          let here : RequestAttribute = record { identifier = s1.0.0; raw = window_to s1.0.1 s3.0.1; values = s3.0.0 } in
          let is : ◌≡◌ {A = RequestAttribute} here a = let last = s3.2 in cc in
          let parts : AttributeParts Means content here s3.0.1 = record {
            after_type = s1.0.1;
            attr_type = p1.0;
            head = s2.0.0;
            after_header = s2.0.1;
            header = p2.0;
            set = equal_tags s2.0.0.tag 17 same.0;
            values = p3.0;
            window = window_found s1.0.1 p2.0.front s2.0.1 front.0 s3.0.1 p2.0.whole front.1;
          } in
          (s3.0.1, subst (λ z. AttributeParts Means content z s3.0.1) is parts)
      | inr differs ↦ let impossible = differs.1 in cc
    ]

parts_only : (Means : ValueMeaning) (parse : ValueReading) → IsValueLaw Means parse → (content : List ℕ) (a : RequestAttribute) (left : List ℕ) → AllBelowBase 256 content → AttributeParts Means content a left → attribute_parts_in parse content ≡ Ok a
unfolding attribute_parts_in
parts_only Means parse law content a left below is =
    let e1 = oids.only content a.identifier is.after_type below is.attr_type in
    let b1 = (oids.found content a.identifier is.after_type below e1).1 in
    let e2 = front_header_only is.after_type is.head is.after_header is.header in
    let b2 = (front_header_found is.after_type is.head is.after_header b1 e2).1 in
    let e3 = values_only Means parse law a.identifier is.after_header a.values left b2 is.values in
    let raw : window_to is.after_type left ≡ a.raw = front_is is.after_type a.raw left is.window in
    rw (e1, e2, tags_equal is.head.tag 17 is.set, e3, raw) refl

attribute_found : (Means : ValueMeaning) (parse : ValueReading) → IsValueLaw Means parse → (e : BerElement) (a : RequestAttribute) → AllBelowBase 256 e.content → attribute_in parse (element_of_ber e) ≡ Ok a → IsAttribute Means e a
unfolding attribute_in
attribute_found Means parse law e a below given =
    elim (chosen ((e.head.class == 0) && (e.head.constructed && (e.head.tag == 16))) _ _ _ given) [
      | inl same ↦
          let outer = and_parts (e.head.class == 0) (e.head.constructed && (e.head.tag == 16)) same.0 in
          let inner = and_parts e.head.constructed (e.head.tag == 16) outer.1 in
          let parts = parts_found Means parse law e.content a below same.1 in
          record {
            container = record { class_is = equal_tags e.head.class 0 outer.0; constructed = inner.0; tag_is = equal_tags e.head.tag 16 inner.1 };
            left = parts.0;
            parts = parts.1;
          }
      | inr differs ↦ let impossible = differs.1 in cc
    ]

attribute_only : (Means : ValueMeaning) (parse : ValueReading) → IsValueLaw Means parse → (e : BerElement) (a : RequestAttribute) → AllBelowBase 256 e.content → IsAttribute Means e a → attribute_in parse (element_of_ber e) ≡ Ok a
unfolding attribute_in
attribute_only Means parse law e a below is =
    rw (tags_equal e.head.class 0 is.container.class_is, is.container.constructed, tags_equal e.head.tag 16 is.container.tag_is) (parts_only Means parse law e.content a is.left below is.parts)

below_front : (xs ys : List ℕ) → AllBelowBase 256 (xs ++ ys) → AllBelowBase 256 xs
below_front [] ys below = tt
below_front (x ∷ xs) ys below = (below.0, below_front xs ys below.1)

closed_below : (Kind : List ℕ → Type 0) (size : Option ℕ) (content body : List ℕ) → Closes Kind size content body → AllBelowBase 256 body → AllBelowBase 256 content
closed_below Kind (Some n) content body closes below = subst (AllBelowBase 256) closes.1 below
closed_below Kind None content body closes below = below_front content _ (subst (AllBelowBase 256) closes.1 below)

abbrev levels : ℕ
levels = MAX_RECURSION - 1

-- the octets of an element's content and those after it are octets
begun_below : (i : List ℕ) (e : BerElement) (r : List ℕ) → BeginsWithBerElement levels i e r → AllBelowBase 256 i → AllBelowBase 256 e.content × AllBelowBase 256 r
begun_below i e r begins below =
    let whole = subst (AllBelowBase 256) begins.whole below in
    let front = subst (AllBelowBase 256) begins.spells.whole (below_front begins.front r whole) in
    (closed_below (IsWithin levels) e.head.size e.content begins.spells.body begins.spells.closes (append_below 256 begins.spells.header begins.spells.body front), append_below 256 begins.front r whole)

abbrev told_by : ValueReading → Reads BerElement → Answer (RequestAttribute × List ℕ)
told_by parse o =
    let front : Option (Element × List ℕ) = option_map (λ p. (element_of_ber p.0, p.1)) (result_ok o) in
    plain front >>= λ e. (attribute_in parse e.0 >>= λ a. Ok (a, e.1))

attribute_is : (parse : ValueReading) (i : List ℕ) → attribute_at parse i ≡ told_by parse (ber_element_at levels i)
unfolding attribute_at
attribute_is parse i = refl

found_by : (Means : ValueMeaning) (parse : ValueReading) → IsValueLaw Means parse → (i : List ℕ) (o : Reads BerElement) (v : RequestAttribute) (r : List ℕ) → AllBelowBase 256 i → ber_element_at levels i ≡ o → told_by parse o ≡ Ok (v, r)
    → X509CriAttribute Means i v r × AllBelowBase 256 r
found_by Means parse law i (Err e) v r below read given = cc
found_by Means parse law i (Ok p) v r below read given =
    let step = two (attribute_in parse (element_of_ber p.0)) _ (v, r) given in
    let begins = ber_found levels i p.1 p.0 below read in
    let octets = begun_below i p.0 p.1 begins below in
    let here : X509CriAttribute Means i step.0 p.1 = record { element = p.0; begins = begins; meant = attribute_found Means parse law p.0 step.0 octets.0 step.1 } in
    let both : ◌≡◌ {A = RequestAttribute × List ℕ} (step.0, p.1) (v, r) = let last = step.2 in cc in
    subst (λ (z : RequestAttribute × List ℕ). X509CriAttribute Means i z.0 z.1 × AllBelowBase 256 z.1) both (here, octets.1)

pub attribute_reading : (Means : ValueMeaning) (parse : ValueReading) → IsValueLaw Means parse → IsReading (X509CriAttribute Means) (attribute_at parse)
attribute_reading Means parse law = record {
  found = λ i v r below given. found_by Means parse law i (ber_element_at levels i) v r below refl (sym (attribute_is parse i) ∙ given);
  only = λ i v r below is.
      let read = ber_only levels i r is.element is.begins in
      let octets = begun_below i is.element r is.begins below in
      let meant = attribute_only Means parse law is.element v octets.0 is.meant in
      attribute_is parse i ∙ ap (told_by parse) read ∙ ap (λ (z : Answer RequestAttribute). z >>= λ a. Ok (a, r)) meant;
}

pub named_attribute_reading : (Means : ValueMeaning) (parse : ValueReading) → IsValueLaw Means parse → IsReading (X509CriAttribute Means) (named_attribute_at parse)
named_attribute_reading Means parse law = named_reading (X509CriAttribute Means) (attribute_at parse) errors.InvalidAttributes (attribute_reading Means parse law)

pub attribute_shortens : (Means : ValueMeaning) (i : List ℕ) (v : RequestAttribute) (r : List ℕ) → X509CriAttribute Means i v r → length r < length i
attribute_shortens Means i v r is = let takes = ber_element_takes levels i r is.element is.begins in omega (arith, takes)

-- ---- as many as begin, of a grammar that takes octets

abbrev Shortens : {A : Type 0} → Grammar A → Type 0
Shortens {A} P = (i : List ℕ) (v : A) (r : List ℕ) → P i v r → length r < length i

many_by : {A : Type 0} (P : Grammar A) (p : Reader A) → IsReading P p → Shortens P → (i : List ℕ) (o : Answer (A × List ℕ)) (vs : List A) (r : List ℕ) → AllBelowBase 256 i → p i ≡ o
    → ((after : List ℕ) (ws : List A) → length after < length i → AllBelowBase 256 after → many_of p after ≡ (ws, r) → AsMany P after ws r)
    → many_after (many_of p) i o ≡ (vs, r) → AsMany P i vs r
unfolding AsMany
many_by {A = A} P p reading short i (Err e) [] r below read go given =
    (ap (λ (z : List A × List ℕ). z.1) given, λ v after is. let there = reading.only i v after below is in cc)
many_by {A = A} P p reading short i (Err e) (w ∷ ws) r below read go given =
    let wrong : [] ≡ w ∷ ws = ap (λ (z : List A × List ℕ). z.0) given in cc
many_by {A = A} P p reading short i (Ok x) vs r below read go given =
    let is = reading.found i x.0 x.1 below read in
    let less = short i x.0 x.1 is.0 in
    let test : nat_lt (length x.1) (length i) ≡ true = lt-ltb (length x.1) (length i) less in
    let whole : ◌≡◌ {A = List A × List ℕ} (x.0 ∷ (many_of p x.1).0, (many_of p x.1).1) (vs, r) =
    ap (λ (b : Bool). if b then (x.0 ∷ (many_of p x.1).0, (many_of p x.1).1) else ([], i)) (sym test) ∙ given in
    let rest : many_of p x.1 ≡ ((many_of p x.1).0, r) = ap (λ (z : List A × List ℕ). ((many_of p x.1).0, z.1)) whole in
    subst (λ z. AsMany P i z r) (ap (λ (z : List A × List ℕ). z.0) whole) (x.1, is.0, go x.1 (many_of p x.1).0 less is.1 rest)

many_found_by : {A : Type 0} (P : Grammar A) (p : Reader A) → IsReading P p → Shortens P → (n : ℕ) (i : List ℕ) (vs : List A) (r : List ℕ) → length i < n → AllBelowBase 256 i → many_of p i ≡ (vs, r) → AsMany P i vs r
many_found_by P p reading short zero i vs r few below given = absurd (omega arith)
many_found_by P p reading short (suc n) i vs r few below given =
    many_by P p reading short i (p i) vs r below refl (λ after ws less b e. many_found_by P p reading short n after ws r (omega (arith, less, few)) b e) (sym (many_step p i) ∙ given)

many_found : {A : Type 0} (P : Grammar A) (p : Reader A) → IsReading P p → Shortens P → (i : List ℕ) (vs : List A) (r : List ℕ) → AllBelowBase 256 i → many_of p i ≡ (vs, r) → AsMany P i vs r
many_found P p reading short i vs r below given = many_found_by P p reading short (suc (length i)) i vs r (omega arith) below given

none_stops : {A : Type 0} (P : Grammar A) (p : Reader A) → IsReading P p → (i : List ℕ) (o : Answer (A × List ℕ)) → AllBelowBase 256 i → p i ≡ o → NoneBegins P i → many_of p i ≡ ([], i)
none_stops P p reading i (Err e) below read none = many_stops p [] i e read
none_stops P p reading i (Ok x) below read none = absurd (none x.0 x.1 (reading.found i x.0 x.1 below read).0)

many_only : {A : Type 0} (P : Grammar A) (p : Reader A) → IsReading P p → Shortens P → (vs : List A) (i r : List ℕ) → AllBelowBase 256 i → AsMany P i vs r → many_of p i ≡ (vs, r)
unfolding AsMany
many_only P p reading short [] i r below is = none_stops P p reading i (p i) below refl is.1 ∙ ap (λ z. ([], z)) is.0
many_only P p reading short (v ∷ vs) i r below is =
    let read = reading.only i v is.0 below is.1 in
    let after = (reading.found i v is.0 below read).1 in
    let step = many_more p [] i is.0 v read (short i v is.0 is.1) in
    step ∙ ap (λ z. (v ∷ z.0, z.1)) (many_only P p reading short vs is.0 r after is.2)

-- ---- a request's attributes

to_end_found : {A : Type 0} (m : A × List ℕ) (v : A) → to_end m ≡ Ok v → m ≡ (v, [])
to_end_found (w, []) v given = let same : w ≡ v = cc in ap (λ z. (z, [])) same
to_end_found (w, x ∷ s) v given = cc

all_found : (Means : ValueMeaning) (parse : ValueReading) → IsValueLaw Means parse → (i : List ℕ) (vs : List RequestAttribute) → AllBelowBase 256 i → all_attributes_at parse i ≡ Ok vs → ToEnd (X509CriAttribute Means) i vs []
unfolding all_attributes_at
all_found Means parse law i vs below given =
    let all = to_end_found (many_of (attribute_at parse) i) vs given in
    (many_found (X509CriAttribute Means) (attribute_at parse) (attribute_reading Means parse law) (attribute_shortens Means) i vs [] below all, refl)

all_only : (Means : ValueMeaning) (parse : ValueReading) → IsValueLaw Means parse → (i : List ℕ) (vs : List RequestAttribute) (r : List ℕ) → AllBelowBase 256 i → ToEnd (X509CriAttribute Means) i vs r → all_attributes_at parse i ≡ Ok vs
unfolding all_attributes_at
all_only Means parse law i vs r below is =
    let all = many_only (X509CriAttribute Means) (attribute_at parse) (attribute_reading Means parse law) (attribute_shortens Means) vs i [] below is.0 in
    ap to_end all

-- what the loop over attributes returns, as it stops and as it ends
pub all_stop : (parse : ValueReading) (i left : List ℕ) (vs : List RequestAttribute) → many_of (attribute_at parse) i ≡ (vs, left) → 0 < length left → all_attributes_at parse i ≡ Err unnamed
unfolding all_attributes_at
all_stop parse i [] vs read some = absurd (omega (arith, some))
all_stop parse i (x ∷ s) vs read some = ap to_end read

pub all_end : (parse : ValueReading) (i left : List ℕ) (vs : List RequestAttribute) → with_front vs (many_of (attribute_at parse) left) ≡ many_of (attribute_at parse) i → left ≡ [] → all_attributes_at parse i ≡ Ok vs
unfolding all_attributes_at many_of many_within
all_end parse i left vs read none =
    let end : with_front vs (many_of (attribute_at parse) left) ≡ (vs, []) = rw none (ap (λ z. (z, [])) (append-nil vs)) in
    ap to_end (sym read ∙ end)

pub attributes_found : (Means : ValueMeaning) (parse : ValueReading) → IsValueLaw Means parse → (i : List ℕ) (vs : List RequestAttribute) → AllBelowBase 256 i → attributes_at parse i ≡ Ok vs → Attributes Means i vs []
unfolding attributes_at
attributes_found Means parse law i vs below given =
    let step = two (naming errors.InvalidAttributes (front_header_at i)) (attributes_behind parse) vs given in
    let header = front_header_found i step.0.0 step.0.1 below (was_named _ _ _ step.1) in
    elim (chosen ((step.0.0.class == 2) && (step.0.0.tag == 0)) _ _ _ step.2) [
      | inl same ↦
          let tests = and_parts (step.0.0.class == 2) (step.0.0.tag == 0) same.0 in
          record {
            head = step.0.0;
            after_header = step.0.1;
            header = header.0;
            class = equal_tags step.0.0.class 2 tests.0;
            tag = equal_tags step.0.0.tag 0 tests.1;
            each = all_found Means parse law step.0.1 vs header.1 same.1;
          }
      | inr differs ↦ let impossible = differs.1 in cc
    ]

pub attributes_only : (Means : ValueMeaning) (parse : ValueReading) → IsValueLaw Means parse → (i : List ℕ) (vs : List RequestAttribute) (r : List ℕ) → AllBelowBase 256 i → Attributes Means i vs r → attributes_at parse i ≡ Ok vs
unfolding attributes_at
attributes_only Means parse law i vs r below is =
    let header = front_header_only i is.head is.after_header is.header in
    let after = (front_header_found i is.head is.after_header below header).1 in
    let all = all_only Means parse law is.after_header vs r after is.each in
    rw (header, tags_equal is.head.class 2 is.class, tags_equal is.head.tag 0 is.tag) all

pub attributes_end : (Means : ValueMeaning) (i : List ℕ) (vs : List RequestAttribute) (r : List ℕ) → Attributes Means i vs r → r ≡ []
attributes_end Means i vs r is = is.each.1
