use Rattle.std.proofs.Common.{◌≢◌, ℕ, ◌<◌, get_or}
use Rattle.certpath_evidence.proofs.lines.place_of.Given as goal

abbrev pub invariant-loop-place : goal.invariant-loop-place
invariant-loop-place l = (j d : ℕ) → j < l.place → get_or l.text j d ≢ l.octet
