use Rattle.std.proofs.Common.{◌≡◌, ◌<◌, ℕ}
use Rattle.cert_graph.specs.declared.reach.Reach.TheVariants.{UpTo}
use Rattle.certpath_why.specs.Bounds.{reach_by}
use Rattle.certpath_why.proofs.bounds.has_bound.Given as goal

abbrev pub invariant-loop-place : goal.invariant-loop-place
invariant-loop-place l = (v : ℕ) → v < l.place → reach_by l.answer v ≡ UpTo 0 → ⊥
