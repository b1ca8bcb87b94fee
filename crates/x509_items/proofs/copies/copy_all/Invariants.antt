use Rattle.std.proofs.Common.{◌≡◌, take, map}
use Rattle.x509_items.proofs.copies.copy_all.Given as goal

abbrev pub invariant-loop-item : goal.invariant-loop-item
invariant-loop-item g l = map g.T.Copies.value l.copies.items ≡ map g.T.Copies.value (take l.item-index l.items)
