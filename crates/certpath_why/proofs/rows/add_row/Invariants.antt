use Rattle.std.proofs.Common.{take}
use Rattle.certpath_why.specs.Adding.{Adds, IsRowOf}
use Rattle.certpath_why.proofs.rows.add_row.Given as goal

abbrev pub invariant-loop-item : goal.invariant-loop-item
invariant-loop-item l = Adds (IsRowOf (take l.item-index l.row) l.added) l.initial.lists.items l.lists.items
