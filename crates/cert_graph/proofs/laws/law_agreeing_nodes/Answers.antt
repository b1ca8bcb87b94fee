-- Clause by clause, the graphs agree.
use Rattle.cert_graph.specs.Nodes.{graph_of}
use Rattle.cert_graph.proofs.NodeFacts.{fit_is_usable}
use Rattle.cert_graph.proofs.Agreeing.{agreed_adequate, agreed_true}
use Rattle.cert_graph.proofs.laws.law_agreeing_nodes.Goals as goal

pub returns : goal.returns
returns c = λ nodes other e target answer. (agreed_adequate (graph_of nodes) (graph_of other) e (fit_is_usable nodes) target answer, agreed_true (graph_of nodes) (graph_of other) e (fit_is_usable nodes) target answer)
