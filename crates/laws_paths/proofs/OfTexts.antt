-- The worked texts.
use Rattle.std.proofs.Common.{◌≡◌, ◌≢◌, ◌∙◌, ap, sym, refl, zero, suc, ℕ, ◌<◌, List, [], ◌∷◌, ◌++◌, get_or, arith, inl, lit<, Ok, Global}
use Rattle.base64.specs.GeneralPurpose.{IsBytes}
use Rattle.certpath_evidence.specs.Answers.{AnswersEvidence, HasFirstBad, HasNoLineFeed, NoneGoesOn}
use Rattle.certpath_evidence.specs.Evidence.{Fits, Told, evidence, line_feed, lines_of}
use Rattle.certpath_evidence.specs.Examples.{three_verdicts}
use Rattle.laws_paths.specs.Worked.{bad_text, null_octets, three}

pub fits : Fits three_verdicts
fits = record { verdicts = (((lit< tt, (lit< tt, tt)), lit< tt), (tt, (tt, tt))); rows = (((lit< tt, lit< tt), ((lit< tt, tt), tt)), (tt, tt)) }

pub read : (alloc : Global) → AnswersEvidence (evidence three_verdicts) (Ok (three alloc))
read alloc = record { fits = fits; text_is = refl }

-- an evidence begins with c, and the text with x
goes_on_not : (line after : List ℕ) → bad_text ≡ line ++ line_feed ∷ after → NoneGoesOn [] line
goes_on_not [] after e told more fit lines = let same : 120 ≡ 10 = ap (λ (s : List ℕ). get_or s 0 0) e in omega (arith, same)
goes_on_not (x ∷ line) after e told more fit lines =
    let first : 120 ≡ x = ap (λ (s : List ℕ). get_or s 0 0) e in
    let begun : 99 ≡ x = ap (λ (s : List (List ℕ)). get_or (get_or s 0 []) 0 0) lines in
    omega (arith, first, begun)

pub bad : HasFirstBad bad_text 1
bad = record {
  before = [];
  rest = bad_text;
  text_is = refl;
  well = inl refl;
  bad = λ line after e free. goes_on_not line after e;
  unended = λ e. refl;
  counted = refl;
}

pub bytes : IsBytes null_octets
bytes zero = lit< tt
bytes (suc zero) = lit< tt
bytes (suc (suc k)) = lit< tt

pub some : null_octets ≢ []
some e = cc
