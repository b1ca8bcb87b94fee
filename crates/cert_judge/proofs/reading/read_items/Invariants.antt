use Rattle.std.proofs.Common.{map, take}
use Rattle.cert_judge.specs.Items.{item_of}
use Rattle.cert_judge.specs.Classed.{AreClassed}
use Rattle.cert_judge.proofs.reading.read_items.Given as goal

abbrev pub invariant-loop-place : goal.invariant-loop-place
invariant-loop-place g l = AreClassed (take l.place l.items.items) (map item_of l.read.items)
