-- The theorem on graphs, at the graph of nodes.
use Rattle.cert_graph.specs.Nodes.{graph_of}
use Rattle.cert_graph.proofs.NodeFacts.{usable_is_certificate}
use Rattle.cert_graph.proofs.Unique.{one_true_answer}
use Rattle.cert_graph.proofs.laws.law_one_true_answer.Goals as goal

pub returns : goal.returns
returns c = λ nodes target answer other h k. one_true_answer (graph_of nodes) (usable_is_certificate nodes) target answer other h k
