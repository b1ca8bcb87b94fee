use Rattle.std.proofs.Common.{take}
use Rattle.cert_graph.specs.Least.{IsLeastOption}
use Rattle.cert_graph.proofs.Looking.{NamedBy}
use Rattle.cert_graph.proofs.lookup.Lookup.least_anchor.Given as goal

abbrev pub invariant-loop-group : goal.invariant-loop-group
invariant-loop-group l = IsLeastOption (λ w. NamedBy (λ g. g.anchors.items) l.nodes.groups.items (take l.group-index l.group-items) w × Unit {0}) l.least
