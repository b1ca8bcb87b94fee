-- Readers of entries take what the relations say, and no more.
use Rattle.std.proofs.Common.{◌≡◌, ◌∙◌, refl, sym, ap, subst, ℕ, ◌==◌, List, [], ◌∷◌, ◌++◌, Bool, true, false, arith, Option, Some, None, Ok, Err, inl, inr}
use Rattle.std.specs.Int.Digits.{AllBelowBase}
use Rattle.std.proofs.lemmas.Bool.Decides.{nat_tests}
use Rattle.asn1_core.proofs.Cases.{chosen}
use Rattle.asn1_core.specs.Elements.{Element, head_of_element}
use Rattle.asn1_core.specs.Strict.{Head}
use Rattle.asn1_any.specs.Cutting.{Piece}
use Rattle.x509_core.specs.Answers.{Answer, Why, unnamed, naming, ◌>>=◌}
use Rattle.x509_core.specs.Grammar.{Grammar, NoneBegins, One, Holds, AsMany, ToEnd, Maybe}
use Rattle.x509_core.specs.Reading.{Reader, piece_at, content_in, next, many_of}
use Rattle.x509_core.specs.declared.error.X509Error.TheVariants as errors
use Rattle.x509_core.proofs.Grammars.{IsMeaning, IsReading, next_reading, two, was_named, content_below, piece_found, many_found, many_only}
use Rattle.x509_core.proofs.Pieces.{empty_read}
use Rattle.x509_names.proofs.LeafLaws.{content_found, content_only}
use Rattle.x509_time.specs.Reading.{time_at}
use Rattle.x509_time.proofs.HeaderLaws.{element_header, one_head}
use Rattle.x509_time.proofs.TimeLaws.{time_reading}
use Rattle.x509_ext.specs.Extensions.{X509Extension, ExtensionList, Extensions, absent, there}
use Rattle.x509_ext.specs.Fields.{Extension, ValueMeaning, ValueReading}
use Rattle.x509_ext.specs.Parts.{IsSerial}
use Rattle.x509_ext.specs.Reading.{serial_at, to_end, extension_list_in}
use Rattle.x509_ext.proofs.ExtensionLaws.{IsValueLaw, list_meaning}
use Rattle.x509_ext.proofs.PartLaws.{serial_meaning}
use Rattle.x509_lists.specs.Fields.{Entry}
use Rattle.x509_lists.specs.Lists.{or_none, EntryParts, RevokedCertificate, RevokedCertificates}
use Rattle.x509_lists.specs.Reading.{or_nothing, maybe_at, entry_list_at, entry_extensions_at, entry_in, entry_at, entries_in, entries_behind, entries_by, entries_at}

-- ---- a part, or nothing

pub record IsMaybe {A : Type 0} (P : Grammar A) (i : List ℕ) (v : Option A) (r : List ℕ) : Type 0 where
  pub is : Maybe P i v r
  pub below : AllBelowBase 256 r

maybe_by : {A : Type 0} (P : Grammar A) (p : Reader A) → IsReading P p → (i : List ℕ) (o : Answer (A × List ℕ)) → AllBelowBase 256 i → p i ≡ o → IsMaybe P i (or_nothing i o).0 (or_nothing i o).1
maybe_by P p reading i (Err e) below read = record {
  is = (refl, λ v after is. let there = reading.only i v after below is in cc);
  below = below;
}
maybe_by P p reading i (Ok x) below read =
    let is = reading.found i x.0 x.1 below read in
    record { is = is.0; below = is.1 }

pub maybe_found : {A : Type 0} (P : Grammar A) (p : Reader A) → IsReading P p → (i : List ℕ) → AllBelowBase 256 i → IsMaybe P i (maybe_at p i).0 (maybe_at p i).1
maybe_found P p reading i below = maybe_by P p reading i (p i) below refl

none_by : {A : Type 0} (P : Grammar A) (p : Reader A) → IsReading P p → (i : List ℕ) (o : Answer (A × List ℕ)) → AllBelowBase 256 i → p i ≡ o → NoneBegins P i → or_nothing i o ≡ (None, i)
none_by P p reading i (Err e) below read none = refl
none_by P p reading i (Ok x) below read none = absurd (none x.0 x.1 (reading.found i x.0 x.1 below read).0)

pub maybe_only : {A : Type 0} (P : Grammar A) (p : Reader A) → IsReading P p → (i : List ℕ) (v : Option A) (r : List ℕ) → AllBelowBase 256 i → Maybe P i v r → maybe_at p i ≡ (v, r)
maybe_only P p reading i None r below is = none_by P p reading i (p i) below refl is.1 ∙ ap (λ z. (None, z)) is.0
maybe_only P p reading i (Some v) r below is = ap (or_nothing i) (reading.only i v r below is)

-- ---- an entry

serials : IsReading (One IsSerial) serial_at
serials = next_reading IsSerial (λ q. content_in 2 q.element) serial_meaning

entry_lists : (Means : ValueMeaning) (parse : ValueReading) → IsValueLaw Means parse → IsReading (ExtensionList Means) (entry_list_at parse)
entry_lists Means parse law = next_reading (Holds 16 (ToEnd (X509Extension Means))) (λ q. extension_list_in parse q.element) (list_meaning Means parse law)

pub entry_meaning : (Means : ValueMeaning) (parse : ValueReading) → IsValueLaw Means parse → IsMeaning (Holds 16 (EntryParts Means)) (λ q. entry_in parse q.element)
unfolding entry_in entry_extensions_at
entry_meaning Means parse law = record {
  found = λ q v spells below given.
      let content = two (content_in 16 q.element) _ v given in
      let tag = content_found 16 q.element content.0 content.1 in
      let inner : AllBelowBase 256 content.0 = subst (AllBelowBase 256) tag.1 (content_below q spells below) in
      let s1 = two (naming errors.InvalidSerial (serial_at content.0)) _ v content.2 in
      let p1 = serials.found content.0 s1.0.0 s1.0.1 inner (was_named _ _ _ s1.1) in
      let s2 = two (time_at s1.0.1) _ v s1.2 in
      let p2 = time_reading.found s1.0.1 s2.0.0 s2.0.1 p1.1 s2.1 in
      let p3 = maybe_found (ExtensionList Means) (entry_list_at parse) (entry_lists Means parse law) s2.0.1 p2.1 in
      let extensions = maybe_at (entry_list_at parse) s2.0.1 in
      let here : Entry = record { serial = s1.0.0; date = s2.0.0; extensions = or_none extensions.0 } in
      let same : ◌≡◌ {A = Entry} here v = cc in
      let parts : EntryParts Means content.0 here extensions.1 = record {
        after_serial = s1.0.1;
        user_certificate = p1.0;
        after_date = s2.0.1;
        revocation_date = p2.0;
        written = extensions.0;
        crl_entry_extensions = p3.is;
        are_extensions = refl;
      } in
      (extensions.1, record { tag = tag.0; inner = subst (λ z. EntryParts Means z v extensions.1) (sym tag.1) (subst (λ z. EntryParts Means content.0 z extensions.1) same parts) });
  only = λ q v spells below is.
      let parts = is.1.inner in
      let inner = content_below q spells below in
      let e1 = serials.only q.element.content v.serial parts.after_serial inner parts.user_certificate in
      let b1 = (serials.found q.element.content v.serial parts.after_serial inner e1).1 in
      let e2 = time_reading.only parts.after_serial v.date parts.after_date b1 parts.revocation_date in
      let b2 = (time_reading.found parts.after_serial v.date parts.after_date b1 e2).1 in
      let e3 = maybe_only (ExtensionList Means) (entry_list_at parse) (entry_lists Means parse law) parts.after_date parts.written is.0 b2 parts.crl_entry_extensions in
      rw (content_only 16 q.element is.1.tag, e1, e2, e3, sym parts.are_extensions) refl;
}

-- ---- entries to the end

to_end_found : {A : Type 0} (m : A × List ℕ) (v : A) → to_end m ≡ Ok v → m ≡ (v, [])
to_end_found (w, []) v given = let same : w ≡ v = cc in ap (λ z. (z, [])) same
to_end_found (w, x ∷ s) v given = cc

entries_meaning : (Means : ValueMeaning) (parse : ValueReading) → IsValueLaw Means parse → IsMeaning (Holds 16 (ToEnd (RevokedCertificate Means))) (λ q. entries_in parse q.element)
unfolding entries_in
entries_meaning Means parse law = record {
  found = λ q v spells below given.
      let content = two (content_in 16 q.element) _ v given in
      let tag = content_found 16 q.element content.0 content.1 in
      let inner : AllBelowBase 256 content.0 = subst (AllBelowBase 256) tag.1 (content_below q spells below) in
      let all = to_end_found (many_of (entry_at parse) content.0) v content.2 in
      let each : AsMany (RevokedCertificate Means) content.0 v [] = many_found (Holds 16 (EntryParts Means)) (λ p. entry_in parse p.element) (entry_meaning Means parse law) content.0 v [] inner all in
      ([], record { tag = tag.0; inner = subst (λ z. ToEnd (RevokedCertificate Means) z v []) (sym tag.1) (each, refl) });
  only = λ q v spells below is.
      let all = many_only (Holds 16 (EntryParts Means)) (λ p. entry_in parse p.element) (entry_meaning Means parse law) v q.element.content [] (content_below q spells below) is.1.inner.0 in
      rw (content_only 16 q.element is.1.tag, all) refl;
}

-- ---- entries, if some are

abbrev some_at : ValueReading → Reader (List Entry)
some_at parse = next (λ p. entries_in parse p.element)

some_entries : (Means : ValueMeaning) (parse : ValueReading) → IsValueLaw Means parse → IsReading (RevokedCertificates Means) (some_at parse)
some_entries Means parse law = next_reading (Holds 16 (ToEnd (RevokedCertificate Means))) (λ q. entries_in parse q.element) (entries_meaning Means parse law)

equal_tags : (a b : ℕ) → (a == b) ≡ true → a ≡ b
equal_tags a b e = grind (arith, nat_tests)

tags_equal : (a b : ℕ) → a ≡ b → (a == b) ≡ true
tags_equal a b e = grind (arith, nat_tests)

-- what has another tag number holds no entries
other_tag : (parse : ValueReading) (e : Element) → (e.tag == 16) ≡ false → entries_in parse e ≡ Err unnamed
unfolding entries_in
other_tag parse e other = rw other refl

some_by : (parse : ValueReading) (i : List ℕ) (p : Piece × List ℕ) (a : Answer (List Entry)) → piece_at i ≡ Ok p → entries_in parse p.0.element ≡ a → some_at parse i ≡ a >>= λ w. Ok (w, p.1)
some_by parse i p a read value =
    ap (λ (z : Answer (Piece × List ℕ)). z >>= λ q. entries_in parse q.0.element >>= λ w. Ok (w, q.1)) read ∙ ap (λ (z : Answer (List Entry)). z >>= λ w. Ok (w, p.1)) value

none_some : (parse : ValueReading) (i : List ℕ) (e : Why) → piece_at i ≡ Err e → some_at parse i ≡ Err e
none_some parse i e read = ap (λ (z : Answer (Piece × List ℕ)). z >>= λ q. entries_in parse q.0.element >>= λ w. Ok (w, q.1)) read

-- what was read of them
pub record AreEntries (Means : ValueMeaning) (i : List ℕ) (es : List Entry) (r : List ℕ) : Type 0 where
  pub written : Option (List Entry)
  pub is : Maybe (RevokedCertificates Means) i written r
  pub are : es ≡ or_none written
  pub below : AllBelowBase 256 r

no_entries : (Means : ValueMeaning) (parse : ValueReading) → IsValueLaw Means parse → (i : List ℕ) (e : Why) → AllBelowBase 256 i → some_at parse i ≡ Err e → AreEntries Means i [] i
no_entries Means parse law i e below read = record {
  written = None;
  is = (refl, λ v after is. let there = (some_entries Means parse law).only i v after below is in cc);
  are = refl;
  below = below;
}

entries_by_found : (Means : ValueMeaning) (parse : ValueReading) → IsValueLaw Means parse → (i : List ℕ) (o : Answer (Piece × List ℕ)) (es : List Entry) (r : List ℕ) → AllBelowBase 256 i → piece_at i ≡ o → entries_by parse i o ≡ Ok (es, r) → AreEntries Means i es r
entries_by_found Means parse law i (Err e) es r below read given =
    let both : ◌≡◌ {A = List Entry × List ℕ} ([], i) (es, r) = cc in
    subst (λ (z : List Entry × List ℕ). AreEntries Means i z.0 z.1) both (no_entries Means parse law i e below (none_some parse i e read))
entries_by_found Means parse law i (Ok p) es r below read given =
    elim (chosen (p.0.element.tag == 16) _ _ _ given) [
      | inl same ↦
          let step = two (naming errors.InvalidExtensions (entries_in parse p.0.element)) _ (es, r) same.1 in
          let both : ◌≡◌ {A = List Entry × List ℕ} (step.0, p.1) (es, r) = cc in
          let is = (some_entries Means parse law).found i step.0 p.1 below (some_by parse i p (Ok step.0) read (was_named _ _ _ step.1)) in
          subst (λ (z : List Entry × List ℕ). AreEntries Means i z.0 z.1) both (record { written = Some step.0; is = is.0; are = refl; below = is.1 })
      | inr other ↦
          let both : ◌≡◌ {A = List Entry × List ℕ} ([], i) (es, r) = cc in
          subst (λ (z : List Entry × List ℕ). AreEntries Means i z.0 z.1) both (no_entries Means parse law i unnamed below (some_by parse i p (Err unnamed) read (other_tag parse p.0.element other.0)))
    ]

pub entries_found : (Means : ValueMeaning) (parse : ValueReading) → IsValueLaw Means parse → (i : List ℕ) (es : List Entry) (r : List ℕ) → AllBelowBase 256 i → entries_at parse i ≡ Ok (es, r) → AreEntries Means i es r
unfolding entries_at
entries_found Means parse law i es r below given = entries_by_found Means parse law i (piece_at i) es r below refl given

there_are : (Means : ValueMeaning) (parse : ValueReading) → IsValueLaw Means parse → (i : List ℕ) (vs : List Entry) (r : List ℕ) → AllBelowBase 256 i → RevokedCertificates Means i vs r → entries_at parse i ≡ Ok (vs, r)
unfolding entries_at
there_are Means parse law i vs r below is =
    let read = (some_entries Means parse law).only i vs r below is in
    let s1 = two (piece_at i) _ (vs, r) read in
    let s2 = two (entries_in parse s1.0.0.element) _ (vs, r) s1.2 in
    let tag : (s1.0.0.element.tag == 16) ≡ true = by parse s1.0.0.element (s1.0.0.element.tag == 16) s2.0 refl s2.1 in
    rw (s1.1, tag, s2.1) s2.2
  where
    by : (parse : ValueReading) (e : Element) (b : Bool) (v : List Entry) → (e.tag == 16) ≡ b → entries_in parse e ≡ Ok v → (e.tag == 16) ≡ true
    by parse e true v test read = test
    by parse e false v test read = let wrong = other_tag parse e test in cc

-- an element of tag number 16 is no wrapper of extensions
no_wrapper : (Means : ValueMeaning) (i : List ℕ) (p : Piece × List ℕ) (xs : List Extension) (rest : List ℕ) → AllBelowBase 256 i → piece_at i ≡ Ok p → p.0.element.tag ≡ 16 → Extensions Means 0 i xs rest → ⊥
no_wrapper Means i p xs rest below read tag (absent none e f) = let wrong = empty_read i none in cc
no_wrapper Means i p xs rest below read tag (there w e) =
    let piece = piece_found i p.0 p.1 below read in
    let one : One (λ q (v : Piece). v ≡ q) i p.0 p.1 = record { piece = p.0; spells = piece.spells; whole = piece.whole; means = refl } in
    let header = element_header (λ q (v : Piece). v ≡ q) i p.0 p.1 one in
    let same = one_head i w.head (head_of_element p.0.element) w.after_header (p.0.element.content ++ p.1) w.header header in
    let tags : w.head.tag ≡ p.0.element.tag = ap (λ (h : Head). h.tag) same in
    let zero : w.head.tag ≡ 0 = w.tag in
    absurd (omega (arith, tags, zero, tag))

unlisted : (Means : ValueMeaning) (parse : ValueReading) → IsValueLaw Means parse → (i : List ℕ) (p : Piece × List ℕ) (b : Bool) (a : Answer (List Entry)) (xs : List Extension) (rest : List ℕ) → AllBelowBase 256 i → piece_at i ≡ Ok p → (p.0.element.tag == 16) ≡ b
    → entries_in parse p.0.element ≡ a → NoneBegins (RevokedCertificates Means) i → Extensions Means 0 i xs rest → entries_behind parse i p ≡ Ok ([], i)
unlisted Means parse law i p false a xs rest below read test value none is = rw test refl
unlisted Means parse law i p true (Ok vs) xs rest below read test value none is =
    absurd (none vs p.1 ((some_entries Means parse law).found i vs p.1 below (some_by parse i p (Ok vs) read value)).0)
unlisted Means parse law i p true (Err e) xs rest below read test value none is =
    absurd (no_wrapper Means i p xs rest below read (equal_tags p.0.element.tag 16 test) is)

unlisted_by : (Means : ValueMeaning) (parse : ValueReading) → IsValueLaw Means parse → (i : List ℕ) (o : Answer (Piece × List ℕ)) (xs : List Extension) (rest : List ℕ) → AllBelowBase 256 i → piece_at i ≡ o
    → NoneBegins (RevokedCertificates Means) i → Extensions Means 0 i xs rest → entries_by parse i o ≡ Ok ([], i)
unlisted_by Means parse law i (Err e) xs rest below read none is = refl
unlisted_by Means parse law i (Ok p) xs rest below read none is = unlisted Means parse law i p (p.0.element.tag == 16) (entries_in parse p.0.element) xs rest below read refl refl none is

pub entries_only : (Means : ValueMeaning) (parse : ValueReading) → IsValueLaw Means parse → (i : List ℕ) (w : Option (List Entry)) (r : List ℕ) (xs : List Extension) (rest : List ℕ) → AllBelowBase 256 i → Maybe (RevokedCertificates Means) i w r → Extensions Means 0 r xs rest
    → entries_at parse i ≡ Ok (or_none w, r)
unfolding entries_at
entries_only Means parse law i (Some vs) r xs rest below is behind = there_are Means parse law i vs r below is
entries_only Means parse law i None r xs rest below is behind =
    unlisted_by Means parse law i (piece_at i) xs rest below refl is.1 (subst (λ z. Extensions Means 0 z xs rest) (sym is.0) behind) ∙ ap (λ z. Ok ([], z)) is.0
