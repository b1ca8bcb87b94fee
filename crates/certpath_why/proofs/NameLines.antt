-- Names in lines, by the grammar.
use Rattle.std.specs.Prelude.{codes, if◌then◌else◌}
use Rattle.std.proofs.Common.{◌≡◌, ◌∙◌, ap, subst, refl, ℕ, Bool, true, false, List, [], ◌∷◌, length, length-append, arith, lit<, nat_lt, None, Ok, Err, bytes_eq, inl, inr}
use Rattle.std.specs.Char.{encode_utf8}
use Rattle.std.specs.Int.Digits.{AllBelowBase}
use Rattle.std.specs.List.{list_all}
use Rattle.std.specs.Str.{chars, is_utf8}
use Rattle.std.proofs.lemmas.Bool.{and_parts, cases_Bool, ltb-true}
use Rattle.std.proofs.lemmas.List.{nil_from_length}
use Rattle.std.proofs.lemmas.Slice.Eq.{bytes_eq-Decides}
use Rattle.x509_core.specs.Answers.{Answer}
use Rattle.x509_core.specs.Grammar.{HoldsWindow}
use Rattle.x509_core.proofs.Grammars.{IsReading, next_reading}
use Rattle.x509_core.proofs.Items.{none_here, piece, spelled}
use Rattle.x509_names.specs.Examples as examples
use Rattle.x509_names.specs.Fields.{Name}
use Rattle.x509_names.specs.Names.{NameParts, X509Name}
use Rattle.x509_names.specs.NameTexts.{known_label, name_text}
use Rattle.x509_names.specs.Reading.{name_at, name_in}
use Rattle.x509_names.proofs.Items.{empty_name_is, name_is, stopped_name_is}
use Rattle.x509_names.proofs.NameLaws.{name_meaning}
use Rattle.certpath_why.specs.LawsOfLines.{IsWholeName}
use Rattle.certpath_why.specs.Texts.{shown_name, text_or_octets, whole_text}

names : IsReading X509Name name_at
names = next_reading (HoldsWindow 16 NameParts (λ n. n.raw)) name_in name_meaning

pub shown_whole : (octets : List ℕ) (name : Name) → AllBelowBase 256 octets → IsWholeName octets name → shown_name octets ≡ text_or_octets octets (name_text known_label name)
shown_whole octets name below is =
    ap (λ a. text_or_octets octets (whole_text octets a)) (names.only octets name [] below is.spelled)
    ∙ ap (λ (b : Bool). text_or_octets octets (if b then name_text known_label name else None)) ((bytes_eq-Decides name.raw octets).1 is.whole)

-- a name that takes up all the octets leaves none
none_left : (octets : List ℕ) (name : Name) (rest : List ℕ) → X509Name octets name rest → name.raw ≡ octets → rest ≡ []
none_left octets name rest is whole =
    let front = is.piece.octets in
    let one = ap length is.whole in
    let two = ap length is.means.window in
    let three = ap length whole in
    nil_from_length rest (omega (arith, one, two, three, length-append front rest, length-append name.raw is.means.left))

other_by : (octets : List ℕ) (read : Answer (Name × List ℕ)) → AllBelowBase 256 octets → name_at octets ≡ read → ((name : Name) → IsWholeName octets name → ⊥) → text_or_octets octets (whole_text octets read) ≡ text_or_octets octets None
other_by octets (Err why) below given none = refl
other_by octets (Ok read) below given none = elim (cases_Bool (bytes_eq read.0.raw octets)) [
  | inl same ↦
      let whole : read.0.raw ≡ octets = (bytes_eq-Decides read.0.raw octets).0 same in
      let is = (names.found octets read.0 read.1 below given).0 in
      let end = none_left octets read.0 read.1 is whole in
      absurd (none read.0 (record { spelled = subst (X509Name octets read.0) end is; whole = whole }))
  | inr differs ↦ ap (λ (b : Bool). text_or_octets octets (if b then name_text known_label read.0 else None)) differs
]

pub shown_other : (octets : List ℕ) → AllBelowBase 256 octets → ((name : Name) → IsWholeName octets name → ⊥) → shown_name octets ≡ text_or_octets octets None
shown_other octets below none = other_by octets (name_at octets) below refl none

-- ---- examples

below_tested : (s : List ℕ) → list_all (λ d. nat_lt d 256) s ≡ true → AllBelowBase 256 s
below_tested [] is = tt
below_tested (x ∷ s) is = let both = and_parts (nat_lt x 256) (list_all (λ d. nat_lt d 256) s) is in (ltb-true x 256 both.0, below_tested s both.1)

pub name_below : AllBelowBase 256 examples.name_octets
name_below = below_tested examples.name_octets refl

pub name_whole : IsWholeName examples.name_octets examples.name
name_whole = record { spelled = name_is []; whole = refl }

pub empty_below : AllBelowBase 256 examples.empty_octets
empty_below = below_tested examples.empty_octets refl

pub empty_whole : IsWholeName examples.empty_octets examples.empty_name
empty_whole = record { spelled = empty_name_is []; whole = refl }

pub stopped_below : AllBelowBase 256 examples.stopped_octets
stopped_below = below_tested examples.stopped_octets refl

-- an empty set is left of its content
pub stopped_not_whole : (name : Name) → IsWholeName examples.stopped_octets name → ⊥
stopped_not_whole name is =
    let one = names.only examples.stopped_octets examples.stopped_name [] stopped_below (stopped_name_is []) in
    let other = names.only examples.stopped_octets name [] stopped_below is.spelled in
    let both : ◌≡◌ {A = Name × List ℕ} (examples.stopped_name, []) (name, []) = cc in
    let raw : examples.stopped_name.raw ≡ name.raw = ap (λ (z : Name × List ℕ). z.0.raw) both in
    let long = ap length (raw ∙ is.whole) in
    omega arith

-- NULL
null_means : (name : Name) → HoldsWindow 16 NameParts (λ n. n.raw) (piece 0 false 5 []) name → ⊥
null_means name is = let tag = is.inside.tag in omega arith

pub null_below : AllBelowBase 256 (0x05 ∷ 0x00 ∷ [])
null_below = below_tested (0x05 ∷ 0x00 ∷ []) refl

pub null_not_whole : (name : Name) → IsWholeName (0x05 ∷ 0x00 ∷ []) name → ⊥
null_not_whole name is = none_here (HoldsWindow 16 NameParts (λ n. n.raw)) (piece 0 false 5 []) [] (spelled 0 false 5 [] (lit< tt) (lit< tt) (lit< tt)) null_means name [] is.spelled

-- ---- what is shown of them

pub name_shown : shown_name examples.name_octets ≡ codes "CN=b"
unfolding is_utf8 encode_utf8 chars
name_shown = shown_whole examples.name_octets examples.name name_below name_whole ∙ refl

pub empty_shown : shown_name examples.empty_octets ≡ codes "(empty)"
empty_shown = shown_whole examples.empty_octets examples.empty_name empty_below empty_whole ∙ refl

pub stopped_shown : shown_name examples.stopped_octets ≡ codes "#30023100"
stopped_shown = shown_other examples.stopped_octets stopped_below stopped_not_whole ∙ refl

pub null_shown : shown_name (0x05 ∷ 0x00 ∷ []) ≡ codes "#0500"
null_shown = shown_other (0x05 ∷ 0x00 ∷ []) null_below null_not_whole ∙ refl
