use Rattle.std.proofs.Common.{◌<◌, List, length, take}
use Rattle.cert_graph.specs.declared.nodes.Nodes.{Nodes}
use Rattle.cert_graph.specs.declared.reach.Reach.{Reach}
use Rattle.cert_graph.specs.Adequate.{row_of}
use Rattle.cert_graph.specs.Least.{IsOpen, IsLeastOption}
use Rattle.cert_graph.specs.Lookup.{IsLookup}
use Rattle.cert_graph.specs.Nodes.{graph_of}
use Rattle.cert_graph.proofs.Looking.{NamedBy}
use Rattle.cert_graph.proofs.lookup.Lookup.least_next.Given as goal

abbrev pub invariant-loop-group : goal.invariant-loop-group
invariant-loop-group l = (nodes : Nodes) (rows : List (List Reach)) → IsLookup nodes rows l.self → l.row < length rows
    → IsLeastOption (λ w. NamedBy (λ g. g.members.items) nodes.groups.items (take l.group-index l.group-items) w × IsOpen (graph_of nodes) (row_of rows l.row) l.count w) l.least
