-- How far the reading of evidence has come.
use Rattle.std.proofs.Common.{◌≡◌, ◌≢◌, ◌∙◌, sym, ap, subst, refl, ℕ, ◌+◌, ◌≤◌, List, [], ◌∷◌, ◌++◌, length, arith, append_assoc, length-append, inl, inr, Result, Ok, Err, IsErrAnd}
use Rattle.std.proofs.lemmas.List.{append-nil}
use Rattle.std.proofs.lemmas.Grind.{flat_map-append}
use Rattle.cert_graph.specs.declared.inventory.Inventory.{Inventory}
use Rattle.certpath_evidence.specs.declared.reading.EvidenceError.{EvidenceError}
use Rattle.certpath_evidence.specs.declared.reading.EvidenceError.TheVariants.{BadLine, OutOfMemory}
use Rattle.certpath_evidence.specs.Answers.{HasNoLineFeed, NoneGoesOn, HasFirstBad, IsEvidenceOf, AnswersEvidence, RefusesLine}
use Rattle.certpath_evidence.specs.Evidence.{Told, told_by, header, lines_of, ended, evidence, Fits}
use Rattle.certpath_evidence.proofs.Pieces.{seam, not_there, head}

pub record SoFar (text rest : List ℕ) (told : Told) (number : ℕ) : Type 0 where
  pub fits : Fits told
  pub text_is : text ≡ ended (lines_of told) ++ rest
  pub counted : number ≡ length (lines_of told) + 1
  pub room : number + length rest ≤ length text + 1

abbrev nothing : Told
nothing = record { verdicts = []; rows = [] }

pub none_yet : (text after : List ℕ) (told : Told) → told ≡ nothing → text ≡ header ++ 10 ∷ after → SoFar text after told 2
none_yet text after told is e = subst (λ t. SoFar text after t 2) (sym is) (record {
  fits = record { verdicts = tt; rows = tt };
  text_is = e;
  counted = refl;
  room = omega (arith, ap length e);
})

ended_more : (lines : List (List ℕ)) (line after : List ℕ) → ended (lines ++ line ∷ []) ++ after ≡ ended lines ++ (line ++ 10 ∷ after)
ended_more lines line after =
    ap (λ z. z ++ after) (flat_map-append (λ (l : List ℕ). l ++ 10 ∷ []) lines (line ∷ []) ∙ ap (λ z. ended lines ++ z) (append-nil (line ++ 10 ∷ [])))
    ∙ append_assoc (ended lines) (line ++ 10 ∷ []) after ∙ ap (λ z. ended lines ++ z) (append_assoc line (10 ∷ []) after)

pub line_read : (text rest line after : List ℕ) (old new : Told) (number : ℕ) → SoFar text rest old number → rest ≡ line ++ 10 ∷ after → Fits new → lines_of new ≡ lines_of old ++ line ∷ [] → SoFar text after new (number + 1)
line_read text rest line after old new number s is fits added = record {
  fits = fits;
  text_is = s.text_is ∙ ap (λ z. ended (lines_of old) ++ z) is ∙ sym (ended_more (lines_of old) line after) ∙ ap (λ z. ended z ++ after) (sym added);
  counted = let before = s.counted in let n : length (lines_of new) ≡ length (lines_of old) + 1 = ap length added ∙ length-append (lines_of old) (line ∷ []) in omega arith;
  room = let before = s.room in omega (arith, ap length is, length-append line (10 ∷ after));
}

pub no_header : (text : List ℕ) → ((after : List ℕ) → text ≡ header ++ 10 ∷ after → ⊥) → HasFirstBad text 1
no_header text none = record {
  before = [];
  rest = text;
  text_is = refl;
  well = inl refl;
  bad = λ line after is no_feed told more fits e. none after (is ∙ ap (λ z. z ++ 10 ∷ after) (sym (ap (head line) e)));
  unended = λ e. refl;
  counted = refl;
}

pub not_ended : (text rest : List ℕ) (told : Told) (number : ℕ) → SoFar text rest told number → HasNoLineFeed rest → rest ≢ [] → HasFirstBad text number
not_ended text rest told number s none some = record {
  before = lines_of told;
  rest = rest;
  text_is = s.text_is;
  well = inr (told, s.fits, refl);
  bad = λ line after is no_feed. absurd (not_there 10 rest line after none is);
  unended = λ e. absurd (some e);
  counted = s.counted;
}

pub line_bad : (text rest line after : List ℕ) (told : Told) (number : ℕ) → SoFar text rest told number → rest ≡ line ++ 10 ∷ after → HasNoLineFeed line → rest ≢ [] → NoneGoesOn (lines_of told) line → HasFirstBad text number
line_bad text rest line after told number s is no_feed some none = record {
  before = lines_of told;
  rest = rest;
  text_is = s.text_is;
  well = inr (told, s.fits, refl);
  bad = λ other behind e free. subst (NoneGoesOn (lines_of told)) (seam 10 line other after behind no_feed free (sym is ∙ e)).0 none;
  unended = λ e. absurd (some e);
  counted = s.counted;
}

pub all_read : (text rest : List ℕ) (inventory : Inventory) (number : ℕ) → SoFar text rest (told_by inventory) number → rest ≡ [] → IsEvidenceOf text inventory
all_read text rest inventory number s none = record {
  fits = s.fits;
  text_is = s.text_is ∙ ap (λ z. evidence (told_by inventory) ++ z) none ∙ append-nil (evidence (told_by inventory));
}

pub refused : (text : List ℕ) (number : ℕ) (P : Type 0) (e : EvidenceError) → (P → HasFirstBad text number) → RefusesLine P number e → AnswersEvidence text (Err e)
refused text number P (BadLine n) bad r = subst (HasFirstBad text) (sym r.0) (bad r.1)
refused text number P OutOfMemory bad r = tt

pub weaker : (P Q : Type 0) (number : ℕ) → (P → Q) → (e : EvidenceError) → RefusesLine P number e → RefusesLine Q number e
weaker P Q number f (BadLine n) r = (r.0, f r.1)
weaker P Q number f OutOfMemory r = tt

pub handed_on : (text : List ℕ) (e : EvidenceError) (r : Result Inventory EvidenceError) → AnswersEvidence text (Err e) → IsErrAnd r (λ x. x ≡ e) → AnswersEvidence text r
handed_on text e (Ok v) a b = absurd b
handed_on text e (Err x) a b = subst (λ z. AnswersEvidence text (Err z)) (sym b) a
