use Rattle.certpath_why.proofs.Spreading.{MarkedUpTo}
use Rattle.certpath_why.proofs.marks.marked_but.Given as goal

abbrev pub invariant-loop-place : goal.invariant-loop-place
invariant-loop-place l = MarkedUpTo l.marks l.left l.place l.places.items
