use Rattle.std.proofs.Common.{◌+◌, ◌≤◌, length, replicate}
use Rattle.cert_graph.specs.declared.reach.Reach.TheVariants.{No}
use Rattle.cert_graph.specs.Adequate.{rows_by}
use Rattle.cert_graph.specs.Nodes.{graph_of}
use Rattle.cert_graph.proofs.Changing.{items_by}
use Rattle.cert_search.proofs.Walking.{Walks}
use Rattle.cert_search.proofs.walk.walk.Given as goal

abbrev pub invariant-loop-left : goal.invariant-loop-left
invariant-loop-left l = record {
  small : l.count + l.left ≤ length l.steps;
  walks : Walks (graph_of l.nodes) l.target (rows_by (replicate (length l.nodes.items.items) No) (items_by l.steps)) l.left l.positions.items l.last l.count;
}

abbrev pub decreases-loop-left : goal.decreases-loop-left
decreases-loop-left l = l.left
