use Rattle.cert_questions.proofs.firsts.numbers_below.Given as goal
use Rattle.cert_judge.proofs.NamedFacts.{AreBelow}

abbrev pub invariant-loop-number : goal.invariant-loop-number
invariant-loop-number l = AreBelow l.number l.numbers.items
