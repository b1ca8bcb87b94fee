use Rattle.cert_judge.specs.Serials.{AreSetsAt}
use Rattle.cert_judge.proofs.standing.long_lists.Given as goal

abbrev pub invariant-loop-place : goal.invariant-loop-place
invariant-loop-place l = AreSetsAt l.items l.sets
