use Rattle.cert_judge.proofs.Listed.{lists_of}
use Rattle.cert_judge.proofs.Siding.{Joined}
use Rattle.cert_judge.proofs.sides.joined.Given as goal

abbrev pub invariant-loop-number : goal.invariant-loop-number
invariant-loop-number l = Joined (lists_of l.lists) l.numbers l.number-index l.all.items
