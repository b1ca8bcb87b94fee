use Rattle.certpath_why.proofs.Spreading.{Unmarked}
use Rattle.certpath_why.proofs.marks.no_marks.Given as goal

abbrev pub invariant-loop-place : goal.invariant-loop-place
invariant-loop-place l = Unmarked l._place l.marks.items
