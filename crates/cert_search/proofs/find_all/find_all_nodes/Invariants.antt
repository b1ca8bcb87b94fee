use Rattle.std.proofs.Common.{◌≡◌, length, replicate}
use Rattle.cert_graph.specs.declared.reach.Reach.TheVariants.{No}
use Rattle.cert_graph.specs.Adequate.{rows_by}
use Rattle.cert_graph.specs.Inventory.{IsAdequateVerdict, OfEach}
use Rattle.cert_graph.specs.Nodes.{graph_of}
use Rattle.cert_graph.proofs.Changing.{items_by}
use Rattle.cert_search.proofs.find_all.find_all_nodes.Given as goal

abbrev pub invariant-loop-target : goal.invariant-loop-target
invariant-loop-target l = record {
  count : length l.verdicts.items ≡ l.target;
  each : OfEach (IsAdequateVerdict (graph_of l.nodes) (rows_by (replicate (length l.nodes.items.items) No) (items_by l.steps.items))) l.verdicts.items;
}
