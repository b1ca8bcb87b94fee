-- Verdict by verdict.
use Rattle.cert_graph.specs.Nodes.{graph_of}
use Rattle.cert_graph.proofs.Sharing.{inventory_true}
use Rattle.cert_graph.proofs.laws.law_adequate_inventory_is_true.Goals as goal

pub returns : goal.returns
returns c = λ nodes inventory h. inventory_true (graph_of nodes) inventory h
