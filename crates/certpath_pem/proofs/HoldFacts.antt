-- Lines that have the words of a boundary, and lines without a hyphen.
use Rattle.std.proofs.Common.{◌≡◌, ◌∙◌, sym, ap, refl, ℕ, ◌==◌, Bool, true, false, List, [], ◌∷◌, ◌++◌, length, take, drop, codes, Option, Some, None, inl, inr, ◌⊎◌}
use Rattle.std.specs.Prelude.{◌||◌, if◌then◌else◌, bytes_eq, option_and_then}
use Rattle.std.specs.List.{list_any}
use Rattle.std.proofs.lemmas.List.{take-append-drop}
use Rattle.std.proofs.Math.Seq.{take-append_seam, take-nil}
use Rattle.std.proofs.lemmas.Slice.Eq.{bytes_eq-Decides}
use Rattle.certpath_pem.specs.Lines.{is_white, without_white_front, without_white_back, put_unless_white, trimmed}
use Rattle.certpath_pem.specs.Labels.{text, dashes, begins_with, holds, holds_boundary, begin_mark, end_mark, begin_words, end_words, before_words, if_label, label_of, boundary_by, boundary_of}
use Rattle.certpath_pem.specs.Laws.{IsBoundaryLine, IsWithin}
use Rattle.certpath_pem.proofs.LabelFacts.{tells, label_says}

abbrev pub has_dash : List ℕ → Bool
has_dash = list_any (λ octet. octet == 45)

or_false : (a b : Bool) → (a || b) ≡ false → (a ≡ false) × (b ≡ false)
or_false true b e = cc
or_false false b e = (refl, e)

or_true : (a b : Bool) → b ≡ true → (a || b) ≡ true
or_true true b e = refl
or_true false b e = e

front_no_dash : (s : List ℕ) → has_dash s ≡ false → has_dash (without_white_front s) ≡ false
front_no_dash [] e = refl
front_no_dash (a ∷ s) e = elim (tells (is_white a)) [
  | inl white ↦ rw white (front_no_dash s (or_false (a == 45) (has_dash s) e).1)
  | inr other ↦ rw other e
]

put_no_dash : (a : ℕ) (s : List ℕ) → (a == 45) ≡ false → has_dash s ≡ false → has_dash (put_unless_white a s) ≡ false
put_no_dash a [] e f = elim (tells (is_white a)) [ inl white ↦ rw white refl | inr other ↦ rw (other, e) refl ]
put_no_dash a (b ∷ s) e f = rw e f

back_no_dash : (s : List ℕ) → has_dash s ≡ false → has_dash (without_white_back s) ≡ false
back_no_dash [] e = refl
back_no_dash (a ∷ s) e =
    let both = or_false (a == 45) (has_dash s) e in
    put_no_dash a (without_white_back s) both.0 (back_no_dash s both.1)

begun_none : (n : ℕ) (w : List ℕ) → bytes_eq (take n []) (45 ∷ w) ≡ false
begun_none n w = ap (λ (z : List ℕ). bytes_eq z (45 ∷ w)) (take-nil n)

not_begun : (w s : List ℕ) → has_dash s ≡ false → begins_with (45 ∷ w) s ≡ false
not_begun w [] e = begun_none (length (45 ∷ w)) w
not_begun w (a ∷ s) e = rw ((or_false (a == 45) (has_dash s) e).0) refl

not_held : (w s : List ℕ) → has_dash s ≡ false → holds (45 ∷ w) s ≡ false
not_held w [] e = not_begun w [] e
not_held w (a ∷ s) e =
    ap (λ b. b || holds (45 ∷ w) s) (not_begun w (a ∷ s) e) ∙ not_held w s (or_false (a == 45) (has_dash s) e).1

no_label : (w line : List ℕ) → has_dash line ≡ false → label_of (45 ∷ w) line ≡ None
no_label w line e =
    ap (λ (b : Bool). option_and_then if_label (option_and_then (before_words dashes) (if b then Some (drop (length (45 ∷ w)) (trimmed line)) else None)))
    (not_begun w (trimmed line) (back_no_dash (without_white_front line) (front_no_dash line e)))

text_by : (line : List ℕ) → label_of begin_words line ≡ None → label_of end_words line ≡ None → holds begin_mark line ≡ false → holds end_mark line ≡ false → boundary_of line ≡ text
text_by line a b c d =
    ap (λ o. boundary_by o (label_of end_words line) (holds_boundary line)) a ∙ ap (λ o. boundary_by None o (holds_boundary line)) b
    ∙ ap (λ z. boundary_by None None (z || holds end_mark line)) c ∙ ap (boundary_by None None) d

pub no_dash_is_text : (line : List ℕ) → has_dash line ≡ false → boundary_of line ≡ text
no_dash_is_text line e =
    text_by line (no_label (codes "----BEGIN ") line e) (no_label (codes "----END ") line e) (not_held (codes "----BEGIN") line e) (not_held (codes "----END") line e)

begins_says : (words s : List ℕ) → begins_with words s ≡ true → s ≡ words ++ drop (length words) s
begins_says words s e =
    sym (take-append-drop (length words) s) ∙ ap (λ z. z ++ drop (length words) s) ((bytes_eq-Decides (take (length words) s) words).0 e)

begins_there : (words rest : List ℕ) → begins_with words (words ++ rest) ≡ true
begins_there words rest = rw (take-append_seam words rest) ((bytes_eq-Decides words words).1 refl)

pub holds_says : (words s : List ℕ) → holds words s ≡ true → IsWithin words s
holds_says words [] e = record { before = []; after = drop (length words) []; octets_are = begins_says words [] e }
holds_says words (a ∷ s) e = elim (tells (begins_with words (a ∷ s))) [
  | inl here ↦ record { before = []; after = drop (length words) (a ∷ s); octets_are = begins_says words (a ∷ s) here }
  | inr not ↦
      let later : holds words s ≡ true = sym (ap (λ b. b || holds words s) not) ∙ e in
      let r = holds_says words s later in
      record { before = a ∷ r.before; after = r.after; octets_are = ap (λ z. a ∷ z) r.octets_are }
]

begun_is_held : (words s : List ℕ) → begins_with words s ≡ true → holds words s ≡ true
begun_is_held words [] e = e
begun_is_held words (a ∷ s) e = ap (λ b. b || holds words s) e

held_there : (words before after : List ℕ) → holds words (before ++ (words ++ after)) ≡ true
held_there words [] after = begun_is_held words (words ++ after) (begins_there words after)
held_there words (a ∷ before) after =
    or_true (begins_with words (a ∷ (before ++ (words ++ after)))) (holds words (before ++ (words ++ after))) (held_there words before after)

pub within_holds : (words s : List ℕ) → IsWithin words s → holds words s ≡ true
within_holds words s w = ap (holds words) w.octets_are ∙ held_there words w.before w.after

by_text : (first last : Option (List ℕ)) (b : Bool) → boundary_by first last b ≡ text → b ≡ false
by_text (Some label) last b e = cc
by_text None (Some label) b e = cc
by_text None None true e = cc
by_text None None false e = refl

pub text_says : (line : List ℕ) → boundary_of line ≡ text → (holds begin_mark line ≡ false) × (holds end_mark line ≡ false)
text_says line e = or_false (holds begin_mark line) (holds end_mark line) (by_text (label_of begin_words line) (label_of end_words line) (holds_boundary line) e)

option_tells : (o : Option (List ℕ)) → (o ≡ None) ⊎ ((x : List ℕ) × (o ≡ Some x))
option_tells None = inl refl
option_tells (Some x) = inr (x, refl)

begin_holds : (line label : List ℕ) → IsBoundaryLine begin_words line label → IsWithin begin_mark line
begin_holds line label b = record { before = b.before; after = 32 ∷ ((label ++ dashes) ++ b.after); octets_are = b.line_is }

end_holds : (line label : List ℕ) → IsBoundaryLine end_words line label → IsWithin end_mark line
end_holds line label b = record { before = b.before; after = 32 ∷ ((label ++ dashes) ++ b.after); octets_are = b.line_is }

not_both : (b : Bool) → b ≡ true → b ≡ false → ⊥
not_both true e f = cc
not_both false e f = cc

pub text_there : (line : List ℕ) → holds begin_mark line ≡ false → holds end_mark line ≡ false → boundary_of line ≡ text
text_there line b e = elim (option_tells (label_of begin_words line)) [
  | inr first ↦ absurd (not_both (holds begin_mark line) (within_holds begin_mark line (begin_holds line first.0 (label_says begin_words line first.0 first.1))) b)
  | inl no_first ↦ elim (option_tells (label_of end_words line)) [
    | inr last ↦ absurd (not_both (holds end_mark line) (within_holds end_mark line (end_holds line last.0 (label_says end_words line last.0 last.1))) e)
    | inl no_last ↦ text_by line no_first no_last b e
  ]
]

-- a line without five hyphens
no_words : (word line : List ℕ) → holds dashes line ≡ false → holds (dashes ++ word) line ≡ false
no_words word line none = elim (tells (holds (dashes ++ word) line)) [
  | inr not ↦ not
  | inl there ↦
      let w = holds_says (dashes ++ word) line there in
      let more : IsWithin dashes line = record { before = w.before; after = word ++ w.after; octets_are = w.octets_are } in
      absurd (not_both (holds dashes line) (within_holds dashes line more) none)
]

pub no_dashes_is_text : (line : List ℕ) → holds dashes line ≡ false → boundary_of line ≡ text
no_dashes_is_text line none = text_there line (no_words (codes "BEGIN") line none) (no_words (codes "END") line none)

-- one octet further
pub held_more : (words s after : List ℕ) (a : ℕ) → s ≡ a ∷ after → begins_with words s ≡ false → holds words s ≡ holds words after
held_more words s after a is not =
    ap (holds words) is ∙ ap (λ b. b || holds words after) (sym (ap (begins_with words) is) ∙ not)

pub held_here : (words s : List ℕ) → begins_with words s ≡ true → holds words s ≡ true
held_here words s there = begun_is_held words s there

pub held_end : (words s : List ℕ) → length s ≡ 0 → holds words s ≡ begins_with words s
held_end words [] e = refl
held_end words (a ∷ s) e = cc
