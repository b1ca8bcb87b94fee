-- By which names entries of revocation lists are refused, and what comes of a list's extensions then.
use Rattle.std.proofs.Common.{◌≡◌, ◌∙◌, ◌⊎◌, inl, inr, refl, sym, ap, subst, ℕ, ◌==◌, List, [], ◌∷◌, ◌++◌, Bool, true, false, arith, Option, Some, None, Ok, Err}
use Rattle.std.specs.Int.Digits.{AllBelowBase}
use Rattle.asn1_core.proofs.Cases.{chosen}
use Rattle.asn1_core.specs.Elements.{Element, head_of_element}
use Rattle.asn1_core.specs.Strict.{Head}
use Rattle.asn1_any.specs.Cutting.{Piece}
use Rattle.x509_core.specs.Answers.{Answer, Why, named, unnamed, naming, ◌>>=◌}
use Rattle.x509_core.specs.Grammar.{NoneBegins, Header, One, Holds, AsMany, ToEnd, Maybe}
use Rattle.x509_core.specs.Reading.{piece_at, content_in, next, many_of}
use Rattle.x509_core.specs.declared.error.X509Error.{X509Error}
use Rattle.x509_core.specs.declared.error.X509Error.TheVariants as errors
use Rattle.x509_core.proofs.Grammars.{IsMeaning, IsReading, next_reading, two, content_below, piece_found, many_found, many_only}
use Rattle.x509_core.proofs.LeafLaws.{equal_tags, content_found, content_only}
use Rattle.x509_core.proofs.Pieces.{empty_read}
use Rattle.x509_time.specs.Reading.{time_at}
use Rattle.x509_time.specs.Times.{ASN1Time}
use Rattle.x509_time.proofs.HeaderLaws.{element_header, one_head}
use Rattle.x509_time.proofs.TimeLaws.{time_reading}
use Rattle.x509_ext.specs.Fields.{Extension, ValueMeaning, ValueReading}
use Rattle.x509_ext.specs.Parts.{IsSerial}
use Rattle.x509_ext.specs.Reading.{serial_at, to_end, extensions_at}
use Rattle.x509_ext.proofs.ExtensionLaws.{IsValueLaw}
use Rattle.x509_ext.proofs.PartLaws.{serial_meaning}
use Rattle.x509_lists.specs.Fields.{Entry}
use Rattle.x509_lists.specs.Lists.{EntryParts, RevokedCertificate, RevokedCertificates}
use Rattle.x509_lists.specs.Reading.{entry_extensions_at, entry_in, entry_at, entries_in, entries_behind, entries_by, entries_at}
use Rattle.x509_lists.proofs.EntryLaws.{entry_meaning, entries_found}
use Rattle.laws_x509.specs.Refused.{Then, Inside, NoWrapper}
use Rattle.laws_x509.specs.ListRefusals.{EntryPartsRefused, EntryRefused}
use Rattle.laws_x509.proofs.Steps.{which_step, told_by, name_is, not_there, part_step, named_step, none_told, inside_told, inside_only}
use Rattle.laws_x509.proofs.TimeSteps.{time_told, no_time}
use Rattle.laws_x509.proofs.ExtensionSteps.{wrapper_told, no_wrapper}

serials : IsReading (One IsSerial) serial_at
serials = next_reading IsSerial (λ q. content_in 2 q.element) serial_meaning

-- ---- an entry

unfoldable entry_by : ValueReading → List ℕ → Answer Entry
entry_by parse content = do
  serial ← naming errors.InvalidSerial (serial_at content)
  date ← time_at serial.1
  Ok (record { serial = serial.0; date = date.0; extensions = (entry_extensions_at parse date.1).0 })

entry_same : (parse : ValueReading) (q : Piece) → entry_in parse q.element ≡ content_in 16 q.element >>= entry_by parse
unfolding entry_in entry_by
entry_same parse q = refl

entry_told : (parse : ValueReading) (i : List ℕ) (e : X509Error) → AllBelowBase 256 i → entry_by parse i ≡ Err (named e) → EntryPartsRefused e i
unfolding entry_by
entry_told parse i e below given =
    elim (named_step (One IsSerial) serial_at serials errors.InvalidSerial i _ e below given) [
      | inl here ↦ subst (λ z. EntryPartsRefused z i) (sym here.0) here.1
      | inr s1 ↦ elim (part_step ASN1Time time_at time_reading s1.after _ e s1.below s1.refused) [
        | inl here ↦
            let is = time_told s1.after e s1.below here in
            subst (λ z. EntryPartsRefused z i) (sym is.0) (record { value = s1.value; after = s1.after; begins = s1.begins; next = is.1 })
        | inr last ↦ let wrong = last.refused in cc
      ]
    ]

entry_parts : (parse : ValueReading) (e : X509Error) (i : List ℕ) → AllBelowBase 256 i → EntryPartsRefused e i → entry_by parse i ≡ Err (named e)
unfolding entry_by
entry_parts parse errors.InvalidSerial i below is = rw (none_told (One IsSerial) serial_at serials errors.InvalidSerial i below is) refl
entry_parts parse errors.InvalidDate i below is =
    let e1 = serials.only i is.value is.after below is.begins in
    let b1 = (serials.found i is.value is.after below e1).1 in
    rw (e1, no_time is.after b1 is.next) refl
entry_parts parse e i below is = absurd is

pub entry_found : (parse : ValueReading) (e : X509Error) (i : List ℕ) → AllBelowBase 256 i → entry_at parse i ≡ Err (named e) → EntryRefused e i
entry_found parse e i below given =
    inside_told 16 (λ q. entry_in parse q.element) (λ q. entry_by parse) (EntryPartsRefused e) i e (entry_same parse) below (λ q b told. entry_told parse q.element.content e b told) given

pub entry_only : (parse : ValueReading) (e : X509Error) (i : List ℕ) → AllBelowBase 256 i → EntryRefused e i → entry_at parse i ≡ Err (named e)
entry_only parse e i below is =
    inside_only 16 (λ q. entry_in parse q.element) (λ q. entry_by parse) (EntryPartsRefused e) i e (entry_same parse) below (λ q b none. entry_parts parse e q.element.content b none) is

-- ---- entries to the end

ended : (m : List Entry × List ℕ) (v : List Entry) → to_end m ≡ Ok v → m ≡ (v, [])
ended (w, []) v given = let same : w ≡ v = cc in ap (λ z. (z, [])) same
ended (w, x ∷ s) v given = cc

entries_meaning : (Means : ValueMeaning) (parse : ValueReading) → IsValueLaw Means parse → IsMeaning (Holds 16 (ToEnd (RevokedCertificate Means))) (λ q. entries_in parse q.element)
unfolding entries_in
entries_meaning Means parse law = record {
  found = λ q v spells below given.
      let content = two (content_in 16 q.element) _ v given in
      let tag = content_found 16 q.element content.0 content.1 in
      let inner : AllBelowBase 256 content.0 = subst (AllBelowBase 256) tag.1 (content_below q spells below) in
      let all = ended (many_of (entry_at parse) content.0) v content.2 in
      let each : AsMany (RevokedCertificate Means) content.0 v [] = many_found (Holds 16 (EntryParts Means)) (λ p. entry_in parse p.element) (entry_meaning Means parse law) content.0 v [] inner all in
      ([], record { tag = tag.0; inner = subst (λ z. ToEnd (RevokedCertificate Means) z v []) (sym tag.1) (each, refl) });
  only = λ q v spells below is.
      let all = many_only (Holds 16 (EntryParts Means)) (λ p. entry_in parse p.element) (entry_meaning Means parse law) v q.element.content [] (content_below q spells below) is.1.inner.0 in
      rw (content_only 16 q.element is.1.tag, all) refl;
}

abbrev some_at : ValueReading → List ℕ → Answer (List Entry × List ℕ)
some_at parse = next (λ p. entries_in parse p.element)

some_entries : (Means : ValueMeaning) (parse : ValueReading) → IsValueLaw Means parse → IsReading (RevokedCertificates Means) (some_at parse)
some_entries Means parse law = next_reading (Holds 16 (ToEnd (RevokedCertificate Means))) (λ q. entries_in parse q.element) (entries_meaning Means parse law)

some_by : (parse : ValueReading) (i : List ℕ) (p : Piece × List ℕ) (a : Answer (List Entry)) → piece_at i ≡ Ok p → entries_in parse p.0.element ≡ a → some_at parse i ≡ a >>= λ w. Ok (w, p.1)
some_by parse i p a read value =
    ap (λ (z : Answer (Piece × List ℕ)). z >>= λ q. entries_in parse q.0.element >>= λ w. Ok (w, q.1)) read ∙ ap (λ (z : Answer (List Entry)). z >>= λ w. Ok (w, p.1)) value

-- what has another tag number holds no entries
other_tag : (parse : ValueReading) (e : Element) → (e.tag == 16) ≡ false → entries_in parse e ≡ Err unnamed
unfolding entries_in
other_tag parse e other = rw other refl

tag_of : (parse : ValueReading) (e : Element) (b : Bool) (v : List Entry) → (e.tag == 16) ≡ b → entries_in parse e ≡ Ok v → (e.tag == 16) ≡ true
tag_of parse e true v test read = test
tag_of parse e false v test read = let wrong = other_tag parse e test in cc

there_are : (Means : ValueMeaning) (parse : ValueReading) → IsValueLaw Means parse → (i : List ℕ) (vs : List Entry) (r : List ℕ) → AllBelowBase 256 i → RevokedCertificates Means i vs r → entries_at parse i ≡ Ok (vs, r)
unfolding entries_at
there_are Means parse law i vs r below is =
    let read = (some_entries Means parse law).only i vs r below is in
    let s1 = two (piece_at i) _ (vs, r) read in
    let s2 = two (entries_in parse s1.0.0.element) _ (vs, r) s1.2 in
    let tag : (s1.0.0.element.tag == 16) ≡ true = tag_of parse s1.0.0.element (s1.0.0.element.tag == 16) s2.0 refl s2.1 in
    rw (s1.1, tag, s2.1) s2.2

-- ---- entries, and extensions after them

-- no wrapper begins an element of tag number 16
no_wrapper_here : (i : List ℕ) (p : Piece × List ℕ) → AllBelowBase 256 i → piece_at i ≡ Ok p → p.0.element.tag ≡ 16 → NoWrapper 0 i
no_wrapper_here i p below read tag =
    let piece = piece_found i p.0 p.1 below read in
    let one : One (λ q (v : Piece). v ≡ q) i p.0 p.1 = record { piece = p.0; spells = piece.spells; whole = piece.whole; means = refl } in
    record {
      some = λ empty. let wrong = empty_read i empty in cc;
      none = λ head after header zero.
          let mine = element_header (λ q (v : Piece). v ≡ q) i p.0 p.1 one in
          let same = one_head i head (head_of_element p.0.element) after (p.0.element.content ++ p.1) header mine in
          let tags : head.tag ≡ p.0.element.tag = ap (λ (h : Head). h.tag) same in
          absurd (omega (arith, tags, zero, tag));
    }

abbrev NoExtensions : ValueMeaning → List ℕ → Type 0
NoExtensions Means = Then (Maybe (RevokedCertificates Means)) (NoWrapper 0)

entries_refused : (Means : ValueMeaning) (parse : ValueReading) → IsValueLaw Means parse → (i : List ℕ) (e : X509Error) (o : Answer (Piece × List ℕ)) → AllBelowBase 256 i → piece_at i ≡ o → entries_by parse i o ≡ Err (named e) → (e ≡ errors.InvalidExtensions) × NoExtensions Means i
entries_refused Means parse law i e (Err y) below read given = cc
entries_refused Means parse law i e (Ok p) below read given =
    elim (chosen (p.0.element.tag == 16) _ _ _ given) [
      | inl same ↦ elim (which_step (naming errors.InvalidExtensions (entries_in parse p.0.element)) _ e same.1) [
        | inl here ↦
            let told = told_by errors.InvalidExtensions (entries_in parse p.0.element) (named e) here in
            let none = not_there (RevokedCertificates Means) (some_at parse) (some_entries Means parse law) i told.1.0 below (some_by parse i p (Err told.1.0) read told.1.1) in
            (name_is e errors.InvalidExtensions told.0, record { value = None; after = i; begins = (refl, none); next = no_wrapper_here i p below read (equal_tags p.0.element.tag 16 same.0) })
        | inr last ↦ let wrong = last.2 in cc
      ]
      | inr other ↦ let wrong = other.1 in cc
    ]

-- entries and the extensions after them
unfoldable pub revoked_by : {B : Type 0} → ValueReading → (List Entry → List Extension → B) → List ℕ → Answer B
revoked_by parse put i = do
  entries ← entries_at parse i
  extensions ← extensions_at parse 0 entries.1
  Ok (put entries.0 extensions)

pub revoked_told : {B : Type 0} (Means : ValueMeaning) (parse : ValueReading) → IsValueLaw Means parse → (put : List Entry → List Extension → B) (i : List ℕ) (e : X509Error) → AllBelowBase 256 i → revoked_by parse put i ≡ Err (named e)
    → (e ≡ errors.InvalidExtensions) × NoExtensions Means i
unfolding revoked_by entries_at
revoked_told Means parse law put i e below given =
    elim (which_step (entries_at parse i) _ e given) [
      | inl here ↦ entries_refused Means parse law i e (piece_at i) below refl here
      | inr step ↦
          let are = entries_found Means parse law i step.0.0 step.0.1 below step.1 in
          elim (which_step (extensions_at parse 0 step.0.1) _ e step.2) [
            | inl here ↦
                let is = wrapper_told parse 0 step.0.1 e are.below here in
                (is.0, record { value = are.written; after = step.0.1; begins = are.is; next = is.1 })
            | inr last ↦ let wrong = last.2 in cc
          ]
    ]

revoked_after : {B : Type 0} (parse : ValueReading) (put : List Entry → List Extension → B) (i : List ℕ) (es : List Entry) (r : List ℕ) → AllBelowBase 256 r → entries_at parse i ≡ Ok (es, r) → NoWrapper 0 r
    → revoked_by parse put i ≡ Err (named errors.InvalidExtensions)
unfolding revoked_by
revoked_after parse put i es r below read none = rw (read, no_wrapper parse 0 r below none) refl

revoked_refused : {B : Type 0} (parse : ValueReading) (put : List Entry → List Extension → B) (i : List ℕ) → entries_at parse i ≡ Err (named errors.InvalidExtensions) → revoked_by parse put i ≡ Err (named errors.InvalidExtensions)
unfolding revoked_by
revoked_refused parse put i read = rw read refl

unread_entries : (Means : ValueMeaning) (parse : ValueReading) → IsValueLaw Means parse → (i : List ℕ) (p : Piece × List ℕ) (b : Bool) (a : Answer (List Entry)) → AllBelowBase 256 i → piece_at i ≡ Ok p → (p.0.element.tag == 16) ≡ b → entries_in parse p.0.element ≡ a
    → NoneBegins (RevokedCertificates Means) i → (entries_behind parse i p ≡ Ok ([], i)) ⊎ (entries_behind parse i p ≡ Err (named errors.InvalidExtensions))
unread_entries Means parse law i p false a below read test value none = inl (rw test refl)
unread_entries Means parse law i p true (Ok vs) below read test value none =
    absurd (none vs p.1 ((some_entries Means parse law).found i vs p.1 below (some_by parse i p (Ok vs) read value)).0)
unread_entries Means parse law i p true (Err y) below read test value none = inr (rw (test, value) refl)

unread_by : (Means : ValueMeaning) (parse : ValueReading) → IsValueLaw Means parse → (i : List ℕ) (o : Answer (Piece × List ℕ)) → AllBelowBase 256 i → piece_at i ≡ o → NoneBegins (RevokedCertificates Means) i
    → (entries_by parse i o ≡ Ok ([], i)) ⊎ (entries_by parse i o ≡ Err (named errors.InvalidExtensions))
unread_by Means parse law i (Err y) below read none = inl refl
unread_by Means parse law i (Ok p) below read none = unread_entries Means parse law i p (p.0.element.tag == 16) (entries_in parse p.0.element) below read refl refl none

unread_at : (Means : ValueMeaning) (parse : ValueReading) → IsValueLaw Means parse → (i : List ℕ) → AllBelowBase 256 i → NoneBegins (RevokedCertificates Means) i
    → (entries_at parse i ≡ Ok ([], i)) ⊎ (entries_at parse i ≡ Err (named errors.InvalidExtensions))
unfolding entries_at
unread_at Means parse law i below none = unread_by Means parse law i (piece_at i) below refl none

pub no_revoked : {B : Type 0} (Means : ValueMeaning) (parse : ValueReading) → IsValueLaw Means parse → (put : List Entry → List Extension → B) (i : List ℕ) (w : Option (List Entry)) (r : List ℕ) → AllBelowBase 256 i → Maybe (RevokedCertificates Means) i w r → NoWrapper 0 r
    → revoked_by parse put i ≡ Err (named errors.InvalidExtensions)
no_revoked Means parse law put i (Some vs) r below is none =
    let read = there_are Means parse law i vs r below is in
    revoked_after parse put i vs r (entries_found Means parse law i vs r below read).below read none
no_revoked Means parse law put i None r below is none =
    elim (unread_at Means parse law i below is.1) [
      | inl read ↦ revoked_after parse put i [] i below read (subst (NoWrapper 0) (sym is.0) none)
      | inr read ↦ revoked_refused parse put i read
    ]
