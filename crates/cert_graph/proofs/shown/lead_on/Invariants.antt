use Rattle.std.proofs.Common.{◌≤◌, drop}
use Rattle.std.specs.Prelude.{◌↔◌}
use Rattle.cert_graph.specs.Nodes.{graph_of}
use Rattle.cert_graph.specs.Steps.{Next}
use Rattle.cert_graph.proofs.shown.lead_on.Given as goal

abbrev pub invariant-loop-issuer : goal.invariant-loop-issuer
invariant-loop-issuer l = record {
  small : l.count ≤ l.issuer-index;
  same : Next (graph_of l.nodes) l.target 0 l.issuers l.anchor ↔ Next (graph_of l.nodes) l.last l.count (drop l.issuer-index l.issuers) l.anchor;
}
