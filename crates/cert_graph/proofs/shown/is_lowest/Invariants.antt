use Rattle.std.proofs.Common.{◌≡◌, ◌+◌, ◌≤◌, List, length, drop}
use Rattle.std.specs.Prelude.{◌↔◌}
use Rattle.cert_graph.specs.declared.reach.Reach.{Reach}
use Rattle.cert_graph.specs.Lookup.{IsLookup}
use Rattle.cert_graph.specs.Nodes.{graph_of}
use Rattle.cert_graph.specs.Steps.{Lowest}
use Rattle.cert_graph.proofs.shown.is_lowest.Given as goal

abbrev pub invariant-loop-issuer : goal.invariant-loop-issuer
invariant-loop-issuer l = record {
  small : l.counted ≤ l.issuer-index;
  left : l.left + l.issuer-index ≡ length l.issuers;
  same : (rows : List (List Reach)) → IsLookup l.nodes rows l.lookup → length rows ≡ length l.issuers
      → Lowest (graph_of l.nodes) rows l.target 0 l.issuers ↔ Lowest (graph_of l.nodes) rows l.last l.counted (drop l.issuer-index l.issuers);
}
