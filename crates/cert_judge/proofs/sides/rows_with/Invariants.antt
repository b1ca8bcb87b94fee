use Rattle.std.proofs.Common.{take, ◌+◌}
use Rattle.cert_graph.specs.Lists.{AreFilled, NamedSoFar}
use Rattle.cert_judge.specs.Copies.{IsIn}
use Rattle.cert_judge.proofs.Listed.{lists_of}
use Rattle.cert_judge.proofs.sides.rows_with.Given as goal

abbrev pub invariant-loop-number : goal.invariant-loop-number
invariant-loop-number l = AreFilled (IsIn (lists_of l.rows)) l.count l.number (lists_of l.lists.items)

abbrev pub invariant-loop-place : goal.invariant-loop-place
invariant-loop-place l = AreFilled (NamedSoFar (IsIn (lists_of l.rows)) l.number (take l.place-index l.place-items)) l.count (l.number + 1) (lists_of l.lists.items)
