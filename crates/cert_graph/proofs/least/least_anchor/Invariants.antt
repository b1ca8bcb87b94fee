use Rattle.std.proofs.Common.{take}
use Rattle.cert_graph.specs.Least.{IsLeastOption}
use Rattle.cert_graph.proofs.Lowest.{LinksBy}
use Rattle.cert_graph.proofs.least.least_anchor.Given as goal

abbrev pub invariant-loop-group : goal.invariant-loop-group
invariant-loop-group l = IsLeastOption (λ w. LinksBy (λ g. g.anchors.items) (take l.group-index l.group-items) l.position w × Unit {0}) l.least
