-- What a node says of its position in the graph.
use Rattle.std.proofs.Common.{get_or}
use Rattle.cert_graph.specs.declared.nodes.Nodes.{Nodes}
use Rattle.cert_graph.specs.Laws.{UsableIsCertificate, FitIsUsable}
use Rattle.cert_graph.specs.Nodes.{graph_of}

-- a usable node is a certificate, as each node keeps
pub usable_is_certificate : (nodes : Nodes) → UsableIsCertificate (graph_of nodes)
usable_is_certificate nodes v usable = (usable.0, λ d. (get_or nodes.items.items v d).usable_is_certificate (usable.1 d))

-- a fit node is usable, as each node keeps
pub fit_is_usable : (nodes : Nodes) → FitIsUsable (graph_of nodes)
fit_is_usable nodes v fit = (fit.0, λ d. (get_or nodes.items.items v d).fit_is_usable (fit.1 d))
