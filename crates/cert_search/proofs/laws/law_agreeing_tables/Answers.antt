-- Clause by clause, the tables agree.
use Rattle.cert_graph.specs.Nodes.{graph_of}
use Rattle.cert_search.proofs.Carried.{agreed_exact, agreed_short}
use Rattle.cert_search.proofs.laws.law_agreeing_tables.Goals as goal

pub returns : goal.returns
returns c = λ nodes other e answer. (agreed_exact (graph_of nodes) (graph_of other) e answer, agreed_short (graph_of nodes) (graph_of other) e answer)
