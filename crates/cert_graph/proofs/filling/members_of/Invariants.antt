use Rattle.std.proofs.Common.{map, take, ◌+◌}
use Rattle.cert_graph.specs.Lists.{AreFilled, NamedSoFar}
use Rattle.cert_graph.specs.Entries.{BelongsTo}
use Rattle.cert_graph.proofs.filling.members_of.Given as goal

abbrev pub invariant-loop-position : goal.invariant-loop-position
invariant-loop-position l = AreFilled (BelongsTo l.entries) l.groups l.position (map (λ x. x.items) l.lists.items)

abbrev pub invariant-loop-own : goal.invariant-loop-own
invariant-loop-own l = AreFilled (NamedSoFar (BelongsTo l.entries) l.position (take l.own-index l.own-items)) l.groups (l.position + 1) (map (λ x. x.items) l.lists.items)
