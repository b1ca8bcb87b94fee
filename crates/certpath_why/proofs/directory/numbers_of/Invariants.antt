use Rattle.certpath_why.specs.Numbered.{AreNumbered}
use Rattle.certpath_why.proofs.directory.numbers_of.Given as goal

abbrev pub invariant-loop-number : goal.invariant-loop-number
invariant-loop-number l = AreNumbered l.buckets l.number l.numbers
