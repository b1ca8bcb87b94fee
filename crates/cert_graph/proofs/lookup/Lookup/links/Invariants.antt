use Rattle.std.proofs.Common.{take}
use Rattle.cert_graph.proofs.Looking.{NamedBy}
use Rattle.cert_graph.proofs.lookup.Lookup.links.Given as goal

abbrev pub invariant-loop-group : goal.invariant-loop-group
invariant-loop-group l = NamedBy (λ g. g.members.items) l.nodes.groups.items (take l.group-index l.group-items) l.issuer → ⊥
