use Rattle.std.proofs.Common.{arith}
use Rattle.certpath_why.proofs.Spreading.{unmarked_more}
use Rattle.certpath_why.proofs.marks.no_marks.Goals as goal

pub loop-place-preserved : goal.loop-place-preserved
loop-place-preserved c = rw c.in_ok-push.ensures.items (unmarked_more c.loop-place._place c.loop-place.marks.items c.loop-place.invariant)

pub returns-clause-count : goal.returns-clause-count
returns-clause-count c = let e = c.loop-place.invariant.count in omega arith

pub returns-clause-none : goal.returns-clause-none
returns-clause-none c = c.loop-place.invariant.none
