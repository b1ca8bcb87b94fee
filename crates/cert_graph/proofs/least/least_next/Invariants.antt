use Rattle.std.proofs.Common.{take}
use Rattle.cert_graph.specs.Nodes.{graph_of}
use Rattle.cert_graph.specs.Least.{IsOpen, IsLeastOption}
use Rattle.cert_graph.proofs.Lowest.{LinksBy}
use Rattle.cert_graph.proofs.least.least_next.Given as goal

abbrev pub invariant-loop-group : goal.invariant-loop-group
invariant-loop-group l =
    IsLeastOption (λ w. LinksBy (λ g. g.members.items) (take l.group-index l.group-items) l.position w × IsOpen (graph_of l.nodes) l.row l.count w) l.least
