use Rattle.std.proofs.Common.{map, take, ◌+◌}
use Rattle.cert_graph.specs.Lists.{AreFilled, NamedSoFar}
use Rattle.cert_graph.specs.Entries.{LinkedTo}
use Rattle.cert_graph.proofs.filling.issued_of.Given as goal

abbrev pub invariant-loop-position : goal.invariant-loop-position
invariant-loop-position l = AreFilled (LinkedTo l.entries) l.groups l.position (map (λ x. x.items) l.lists.items)

abbrev pub invariant-loop-group : goal.invariant-loop-group
invariant-loop-group l = AreFilled (NamedSoFar (LinkedTo l.entries) l.position (take l.group-index l.group-items)) l.groups (l.position + 1) (map (λ x. x.items) l.lists.items)
