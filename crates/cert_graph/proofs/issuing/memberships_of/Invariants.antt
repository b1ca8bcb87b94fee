use Rattle.std.proofs.Common.{map, take, length, ◌+◌}
use Rattle.cert_graph.specs.Lists.{AreFilled, NamedSoFar}
use Rattle.cert_graph.specs.Issuing.{MemberIn}
use Rattle.cert_graph.proofs.issuing.memberships_of.Given as goal

abbrev pub invariant-loop-place : goal.invariant-loop-place
invariant-loop-place l = AreFilled (MemberIn l.nodes.groups.items) (length l.nodes.items.items) l.place (map (λ x. x.items) l.lists.items)

abbrev pub invariant-loop-item : goal.invariant-loop-item
invariant-loop-item l = AreFilled (NamedSoFar (MemberIn l.nodes.groups.items) l.place (take l.item-index l.item-items)) (length l.nodes.items.items) (l.place + 1) (map (λ x. x.items) l.lists.items)
