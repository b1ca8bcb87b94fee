use Rattle.std.proofs.Common.{map}
use Rattle.cert_judge.specs.Items.{item_of}
use Rattle.certpath_why.specs.Found.{AreSpent, AreSpread}
use Rattle.certpath_why.proofs.reached.reached_marks.Given as goal

abbrev pub invariant-loop-done : goal.invariant-loop-done
invariant-loop-done l = AreSpread (map item_of l.found.items.now) l.target l.marks.items l.queue.items l.done × AreSpent (map item_of l.found.items.now) l.spent.items l.marks.items
