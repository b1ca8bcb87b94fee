use Rattle.cert_judge.proofs.NamedFacts.{AreBelow}
use Rattle.certpath_why.proofs.directory.numbers_below.Given as goal

abbrev pub invariant-loop-number : goal.invariant-loop-number
invariant-loop-number l = AreBelow l.number l.numbers.items
