-- The theorem on graphs, at the graph of nodes.
use Rattle.cert_graph.specs.Nodes.{graph_of}
use Rattle.cert_graph.proofs.True.{adequate_is_true}
use Rattle.cert_graph.proofs.laws.law_adequate_is_true.Goals as goal

pub returns : goal.returns
returns c = λ nodes target answer h. adequate_is_true (graph_of nodes) target answer h
