use Rattle.cert_judge.proofs.Siding.{InTwo}
use Rattle.cert_judge.proofs.sides.sides_of.Given as goal

abbrev pub invariant-loop-number : goal.invariant-loop-number
invariant-loop-number l = InTwo l.row l.number-index l.few.items l.many.items
