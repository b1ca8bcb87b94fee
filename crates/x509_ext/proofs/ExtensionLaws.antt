-- Readers of extensions take what the relations say, and no more.
use Rattle.std.proofs.Common.{◌≡◌, ◌∙◌, refl, sym, ap, subst, ℕ, ◌==◌, ◌||◌, not, List, [], ◌∷◌, Bool, true, false, arith, Option, Some, None, Ok, Err, if◌then◌else◌, inl, inr}
use Rattle.std.specs.Int.Digits.{AllBelowBase}
use Rattle.std.proofs.lemmas.Bool.Decides.{nat_tests}
use Rattle.asn1_core.proofs.Cases.{chosen}
use Rattle.asn1_core.specs.Reading.{header_at, identity_at}
use Rattle.asn1_core.specs.Strict.{Head}
use Rattle.asn1_any.specs.Cutting.{Piece}
use Rattle.asn1_traits.specs.Booleans.{BooleanMeans}
use Rattle.x509_core.specs.Answers.{Answer, plain, naming, ◌>>=◌}
use Rattle.x509_core.specs.Grammar.{NoneBegins, Header, One, Holds, Maybe, AsMany, ToEnd}
use Rattle.x509_core.specs.Reading.{piece_at, front_header_at, content_in, oid_in, next, many_of}
use Rattle.x509_core.specs.declared.error.X509Error.TheVariants as errors
use Rattle.x509_core.proofs.FrontLaws.{named_reading}
use Rattle.x509_core.proofs.Grammars.{IsMeaning, IsReading, next_reading, two, was_named, content_below, front_below, many_found, many_only}
use Rattle.x509_core.proofs.LeafLaws.{equal_tags, tags_equal, content_found, content_only, oid_meaning, option_meaning}
pub use Rattle.x509_items.proofs.HeaderLaws.{front_header_found, front_header_only}
use Rattle.x509_names.specs.Leaves.{IsOid, IsOctets}
use Rattle.x509_names.specs.Reading.{octets_in, oid_at}
use Rattle.x509_names.proofs.LeafLaws.{octets_meaning}
use Rattle.x509_ext_parse.specs.Parsed.{IsParsed}
use Rattle.x509_ext_parse.specs.Reading.{deeply}
use Rattle.x509_ext_parse.proofs.Laws.{deep_found, deep_only}
use Rattle.x509_ext.specs.Fields.{Extension, ValueMeaning, ValueReading, IsUnparsed, unread, meaning_of, reading_of}
use Rattle.x509_ext.specs.Extensions.{IsBoolean, or_false, ExtensionParts, X509Extension, ExtensionList, Wrapped, Extensions, absent, there}
use Rattle.x509_ext.specs.Reading.{boolean_of, boolean_in, critical_by, critical_from, critical_at, extension_in, extension_at, named_extension_at, to_end, extension_list_in, extension_list_at, wrapped_at, extensions_at}

-- ---- critical

boolean_is : (c : List ℕ) (b : Bool) → boolean_of c ≡ Some b → BooleanMeans c b
boolean_is [] b given = cc
boolean_is (x ∷ []) b given = record { octet = x; whole = refl; value = cc }
boolean_is (x ∷ y ∷ s) b given = cc

boolean_only : (c : List ℕ) (b : Bool) → BooleanMeans c b → boolean_of c ≡ Some b
boolean_only c b is = rw is.whole (ap (λ z. Some z) (sym is.value))

abbrev boolean : Piece → Answer Bool
boolean q = plain (boolean_in q.element)

boolean_meaning : IsMeaning IsBoolean boolean
boolean_meaning = option_meaning 1 BooleanMeans boolean_of boolean_is boolean_only

abbrev told : List ℕ → Answer (Bool × List ℕ) → Bool × List ℕ
told i (Err e) = (false, i)
told i (Ok x) = (x.0, x.1)

by_is : (i r : List ℕ) (o : Option Bool) → critical_by o i r ≡ told i (plain o >>= λ v. Ok (v, r))
by_is i r None = refl
by_is i r (Some b) = refl

from_is : (i : List ℕ) (o : Answer (Piece × List ℕ)) → critical_from o i ≡ told i (o >>= λ e. (boolean e.0 >>= λ v. Ok (v, e.1)))
from_is i (Err e) = refl
from_is i (Ok p) = by_is i p.1 (boolean_in p.0.element)

critical_is : (i : List ℕ) → critical_at i ≡ told i (next boolean i)
unfolding critical_at
critical_is i = from_is i (piece_at i)

-- whether it is written, and what is left
record IsCritical (i : List ℕ) (b : Bool) (r : List ℕ) : Type 0 where
  written : Option Bool
  read : Maybe (One IsBoolean) i written r
  value : b ≡ or_false written
  below : AllBelowBase 256 r

critical_by_found : (i : List ℕ) (o : Answer (Bool × List ℕ)) → AllBelowBase 256 i → next boolean i ≡ o → IsCritical i (told i o).0 (told i o).1
critical_by_found i (Err e) below read = record {
  written = None;
  read = (refl, λ v after is. let there = (next_reading IsBoolean boolean boolean_meaning).only i v after below is in cc);
  value = refl;
  below = below;
}
critical_by_found i (Ok x) below read =
    let is = (next_reading IsBoolean boolean boolean_meaning).found i x.0 x.1 below read in
    record { written = Some x.0; read = is.0; value = refl; below = is.1 }

critical_found : (i : List ℕ) → AllBelowBase 256 i → IsCritical i (critical_at i).0 (critical_at i).1
critical_found i below = subst (λ (z : Bool × List ℕ). IsCritical i z.0 z.1) (sym (critical_is i)) (critical_by_found i (next boolean i) below refl)

critical_none : (i : List ℕ) (o : Answer (Bool × List ℕ)) → AllBelowBase 256 i → next boolean i ≡ o → NoneBegins (One IsBoolean) i → told i o ≡ (false, i)
critical_none i (Err e) below read none = refl
critical_none i (Ok x) below read none = absurd (none x.0 x.1 ((next_reading IsBoolean boolean boolean_meaning).found i x.0 x.1 below read).0)

critical_only : (i : List ℕ) (w : Option Bool) (r : List ℕ) → AllBelowBase 256 i → Maybe (One IsBoolean) i w r → critical_at i ≡ (or_false w, r)
critical_only i None r below is = critical_is i ∙ critical_none i (next boolean i) below refl is.1 ∙ ap (λ z. (false, z)) is.0
critical_only i (Some v) r below is = critical_is i ∙ ap (told i) ((next_reading IsBoolean boolean boolean_meaning).only i v r below is)

-- ---- an extension

-- the reading of a value, which is octets, gives what it means
pub record IsValueLaw (Means : ValueMeaning) (parse : ValueReading) : Type 0 where
  pub found : (id value : List ℕ) → AllBelowBase 256 value → Means id value (parse id value)
  pub only : (id value : List ℕ) (p : _) → AllBelowBase 256 value → Means id value p → parse id value ≡ p

pub unread_law : IsValueLaw IsUnparsed unread
unread_law = record { found = λ id value below. refl; only = λ id value p below is. sym is }

pub deep_law : IsValueLaw IsParsed deeply
deep_law = record { found = deep_found; only = deep_only }

pub reads_law : (deep : Bool) → IsValueLaw (meaning_of deep) (reading_of deep)
reads_law false = unread_law
reads_law true = deep_law

value_below : (i v r : List ℕ) → AllBelowBase 256 i → One IsOctets i v r → AllBelowBase 256 v
value_below i v r below is = subst (AllBelowBase 256) (sym is.means.meant) (content_below is.piece is.spells (front_below i is.piece.octets r is.whole below))

pub extension_meaning : (Means : ValueMeaning) (parse : ValueReading) → IsValueLaw Means parse → IsMeaning (Holds 16 (ExtensionParts Means)) (λ q. extension_in parse q.element)
unfolding extension_in
extension_meaning Means parse law = record {
  found = λ q v spells below given.
      let content = two (content_in 16 q.element) _ v given in
      let tag = content_found 16 q.element content.0 content.1 in
      let inner : AllBelowBase 256 content.0 = subst (AllBelowBase 256) tag.1 (content_below q spells below) in
      let oid = two (oid_at content.0) _ v content.2 in
      let id = (next_reading IsOid (λ p. oid_in p.element) oid_meaning).found content.0 oid.0.0 oid.0.1 inner oid.1 in
      let critical = critical_found oid.0.1 id.1 in
      let last = two (next (λ p. octets_in p.element) (critical_at oid.0.1).1) _ v oid.2 in
      let value = (next_reading IsOctets (λ p. octets_in p.element) octets_meaning).found (critical_at oid.0.1).1 last.0.0 last.0.1 critical.below last.1 in
      let here : Extension = record { identifier = oid.0.0; critical = (critical_at oid.0.1).0; value = last.0.0; parsed = parse oid.0.0 last.0.0 } in
      let same : ◌≡◌ {A = Extension} here v = cc in
      let parts : ExtensionParts Means content.0 here last.0.1 = record {
        after_id = oid.0.1;
        extn_id = id.0;
        written = critical.written;
        after_critical = (critical_at oid.0.1).1;
        critical = critical.read;
        is_critical = critical.value;
        extn_value = value.0;
        parsed = law.found oid.0.0 last.0.0 (value_below (critical_at oid.0.1).1 last.0.0 last.0.1 critical.below value.0);
      } in
      (last.0.1, record { tag = tag.0; inner = subst (λ z. ExtensionParts Means z v last.0.1) (sym tag.1) (subst (λ z. ExtensionParts Means content.0 z last.0.1) same parts) });
  only = λ q v spells below is.
      let parts = is.1.inner in
      let inner = content_below q spells below in
      let oids = next_reading IsOid (λ p. oid_in p.element) oid_meaning in
      let id : oid_at q.element.content ≡ Ok (v.identifier, parts.after_id) = oids.only q.element.content v.identifier parts.after_id inner parts.extn_id in
      let below_id = (oids.found q.element.content v.identifier parts.after_id inner id).1 in
      let critical = critical_only parts.after_id parts.written parts.after_critical below_id parts.critical in
      let left = critical_found parts.after_id below_id in
      let below_critical : AllBelowBase 256 parts.after_critical = subst (AllBelowBase 256) (ap (λ (z : Bool × List ℕ). z.1) critical) left.below in
      let value = (next_reading IsOctets (λ p. octets_in p.element) octets_meaning).only parts.after_critical v.value is.0 below_critical parts.extn_value in
      let bytes = value_below parts.after_critical v.value is.0 below_critical parts.extn_value in
      rw (content_only 16 q.element is.1.tag, id, critical, value, law.only v.identifier v.value v.parsed bytes parts.parsed, sym parts.is_critical) refl;
}

pub named_extension_reading : (Means : ValueMeaning) (parse : ValueReading) → IsValueLaw Means parse → IsReading (X509Extension Means) (named_extension_at parse)
named_extension_reading Means parse law =
    named_reading (X509Extension Means) (extension_at parse) errors.InvalidExtensions (next_reading (Holds 16 (ExtensionParts Means)) (λ q. extension_in parse q.element) (extension_meaning Means parse law))

-- ---- lists of extensions

to_end_found : {A : Type 0} (m : A × List ℕ) (v : A) → to_end m ≡ Ok v → m ≡ (v, [])
to_end_found (w, []) v given = let same : w ≡ v = cc in ap (λ z. (z, [])) same
to_end_found (w, x ∷ s) v given = cc

pub list_meaning : (Means : ValueMeaning) (parse : ValueReading) → IsValueLaw Means parse → IsMeaning (Holds 16 (ToEnd (X509Extension Means))) (λ q. extension_list_in parse q.element)
unfolding extension_list_in
list_meaning Means parse law = record {
  found = λ q v spells below given.
      let content = two (content_in 16 q.element) _ v given in
      let tag = content_found 16 q.element content.0 content.1 in
      let inner : AllBelowBase 256 content.0 = subst (AllBelowBase 256) tag.1 (content_below q spells below) in
      let all = to_end_found (many_of (extension_at parse) content.0) v content.2 in
      let each : AsMany (X509Extension Means) content.0 v [] = many_found (Holds 16 (ExtensionParts Means)) (λ p. extension_in parse p.element) (extension_meaning Means parse law) content.0 v [] inner all in
      ([], record { tag = tag.0; inner = subst (λ z. ToEnd (X509Extension Means) z v []) (sym tag.1) (each, refl) });
  only = λ q v spells below is.
      let all = many_only (Holds 16 (ExtensionParts Means)) (λ p. extension_in parse p.element) (extension_meaning Means parse law) v q.element.content [] (content_below q spells below) is.1.inner.0 in
      rw (content_only 16 q.element is.1.tag, all) refl;
}

list_found : (Means : ValueMeaning) (parse : ValueReading) → IsValueLaw Means parse → (i : List ℕ) (es : List Extension) → AllBelowBase 256 i → extension_list_at parse i ≡ Ok es → ExtensionList Means i es []
unfolding extension_list_at
list_found Means parse law i es below given =
    let step = two (next (λ p. extension_list_in parse p.element) i) to_end es given in
    let whole = to_end_found step.0 es step.2 in
    ((next_reading (Holds 16 (ToEnd (X509Extension Means))) (λ p. extension_list_in parse p.element) (list_meaning Means parse law)).found i es [] below (step.1 ∙ ap (λ z. Ok z) whole)).0

list_only : (Means : ValueMeaning) (parse : ValueReading) → IsValueLaw Means parse → (i : List ℕ) (es : List Extension) → AllBelowBase 256 i → ExtensionList Means i es [] → extension_list_at parse i ≡ Ok es
unfolding extension_list_at
list_only Means parse law i es below is =
    rw ((next_reading (Holds 16 (ToEnd (X509Extension Means))) (λ p. extension_list_in parse p.element) (list_meaning Means parse law)).only i es [] below is) refl

-- ---- where they are

pub extensions_found : (Means : ValueMeaning) (parse : ValueReading) → IsValueLaw Means parse → (n : ℕ) (i : List ℕ) (es : List Extension) → AllBelowBase 256 i → extensions_at parse n i ≡ Ok es → Extensions Means n i es []
extensions_found Means parse law n [] es below given = let none : [] ≡ es = cc in absent (refl {a = []}) (sym none) (refl {a = []})
extensions_found Means parse law n (x ∷ s) es below given =
    let step = two (naming errors.InvalidExtensions (front_header_at (x ∷ s))) (wrapped_at parse n) es given in
    let header = front_header_found (x ∷ s) step.0.0 step.0.1 below (was_named _ _ _ step.1) in
    elim (chosen (step.0.0.tag == n) _ _ _ step.2) [
      | inl same ↦ there (record { head = step.0.0; after_header = step.0.1; header = header.0; tag = equal_tags step.0.0.tag n same.0; list = list_found Means parse law step.0.1 es header.1 same.1 }) refl
      | inr other ↦ let impossible = other.1 in cc
    ]

empty_header : (h : Head) (r : List ℕ) → Header [] h r → ⊥
unfolding front_header_at header_at identity_at
empty_header h r is = let read = front_header_only [] h r is in cc

wrapped_only : (Means : ValueMeaning) (parse : ValueReading) → IsValueLaw Means parse → (n : ℕ) (i : List ℕ) (es : List Extension) → AllBelowBase 256 i → Wrapped Means n i es → extensions_at parse n i ≡ Ok es
wrapped_only Means parse law n [] es below is = absurd (empty_header is.head is.after_header is.header)
wrapped_only Means parse law n (x ∷ s) es below is =
    let header = front_header_only (x ∷ s) is.head is.after_header is.header in
    let after = (front_header_found (x ∷ s) is.head is.after_header below header).1 in
    let list = list_only Means parse law is.after_header es after is.list in
    rw (header, tags_equal is.head.tag n is.tag, list) refl

pub extensions_only : (Means : ValueMeaning) (parse : ValueReading) → IsValueLaw Means parse → (n : ℕ) (i : List ℕ) (es : List Extension) (r : List ℕ) → AllBelowBase 256 i → Extensions Means n i es r → extensions_at parse n i ≡ Ok es
extensions_only Means parse law n i es r below (absent none empty left) = rw (none, empty) refl
extensions_only Means parse law n i es r below (there wrapped left) = wrapped_only Means parse law n i es below wrapped

pub extensions_end : (Means : ValueMeaning) (n : ℕ) (i : List ℕ) (es : List Extension) (r : List ℕ) → Extensions Means n i es r → r ≡ []
extensions_end Means n i es r (absent none empty left) = left
extensions_end Means n i es r (there wrapped left) = left
