use Rattle.certpath_c.proofs.ClassNumbers.{NumbersSoFar}
use Rattle.certpath_c.proofs.classes.numbers_of.Given as goal

abbrev pub invariant-loop-k : goal.invariant-loop-k
invariant-loop-k l = NumbersSoFar l.items.items l.numbers.items l.k
