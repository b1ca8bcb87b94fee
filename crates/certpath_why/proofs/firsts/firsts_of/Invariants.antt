use Rattle.certpath_why.specs.Firsts.{AreFirstsOf, AreRowsKnown}
use Rattle.certpath_why.proofs.firsts.firsts_of.Given as goal

abbrev pub invariant-loop-number : goal.invariant-loop-number
invariant-loop-number l = AreRowsKnown l.rows l.number l.known × AreFirstsOf l.rows l.number l.firsts.items
