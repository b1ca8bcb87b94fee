use Rattle.certpath_why.proofs.Spacing.{IsOver}
use Rattle.certpath_why.proofs.cuts.ranges_but.Given as goal

abbrev pub invariant-loop-place : goal.invariant-loop-place
invariant-loop-place l = IsOver l.all l.left_out l.place-index l.walk
