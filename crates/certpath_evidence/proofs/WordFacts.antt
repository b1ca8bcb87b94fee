-- What a line is no line of.
use Rattle.std.proofs.Common.{◌≡◌, ◌≢◌, ◌∙◌, sym, ℕ, ◌<◌, ◌^◌, List, ◌∷◌, ◌++◌, arith, codes}
use Rattle.std.specs.Fmt.{decimal}
use Rattle.std.specs.Int.{IsInRange}
use Rattle.cert_graph.specs.declared.changes.Change.{Change}
use Rattle.cert_graph.specs.declared.reach.Reach.{Reach}
use Rattle.cert_graph.specs.declared.reach.Reach.TheVariants.{No, UpTo, Any}
use Rattle.certpath_evidence.specs.Evidence.{Said, path, pathless, no_certificate, path_words, verdict_line, reach_words, change_line, FitsSaid, FitsReach, FitsChange}
use Rattle.certpath_evidence.proofs.NumberFacts.{no_other}
use Rattle.certpath_evidence.proofs.Pieces.{HasNo, seam, not_there}

pub no_digit : IsInRange 48 57 32 → ⊥
no_digit r = let low = r.0 in absurd (omega arith)

pub reach_none : (words : List ℕ) → words ≢ codes "no" → words ≢ codes "any" → ((n : ℕ) → n < 2 ^ 32 → words ≡ codes "upto " ++ decimal n → ⊥) → (reach : Reach) → FitsReach reach → words ≡ reach_words reach → ⊥
reach_none words not_no not_any up No fits e = not_no e
reach_none words not_no not_any up (UpTo n) fits e = up n fits e
reach_none words not_no not_any up Any fits e = not_any e

pub change_unsplit : (line : List ℕ) → HasNo 32 line → (change : Change) → line ≡ change_line change → ⊥
change_unsplit line none change e = not_there 32 line (decimal change.position) (reach_words change.reach) none e

pub change_split : (line word words : List ℕ) (change : Change) → FitsChange change → line ≡ word ++ 32 ∷ words → HasNo 32 word → line ≡ change_line change → (word ≡ decimal change.position) × (words ≡ reach_words change.reach)
change_split line word words change fits is none e = seam 32 word (decimal change.position) words (reach_words change.reach) none (no_other 32 change.position fits.0 no_digit) (sym is ∙ e)

pub verdict_none : (line : List ℕ) → line ≢ codes "none" → line ≢ codes "no certificate" → ((ps : List ℕ) (a : ℕ) → FitsSaid (path ps a) → line ≡ codes "path " ++ path_words ps a → ⊥) → (said : Said) → FitsSaid said → line ≡ verdict_line said → ⊥
verdict_none line none no_one path_one (path ps a) fits e = path_one ps a fits e
verdict_none line none no_one path_one pathless fits e = none e
verdict_none line none no_one path_one no_certificate fits e = no_one e
