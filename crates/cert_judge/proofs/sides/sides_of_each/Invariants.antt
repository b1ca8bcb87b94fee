use Rattle.cert_judge.proofs.Listed.{lists_of}
use Rattle.cert_judge.proofs.Siding.{EachInTwo}
use Rattle.cert_judge.proofs.sides.sides_of_each.Given as goal

abbrev pub invariant-loop-number : goal.invariant-loop-number
invariant-loop-number l = EachInTwo (lists_of l.rows) l.number (lists_of l.few.items) (lists_of l.many.items)
