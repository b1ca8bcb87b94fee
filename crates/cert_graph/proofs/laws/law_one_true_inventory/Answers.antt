-- Verdict by verdict, at the graph of nodes.
use Rattle.cert_graph.specs.Nodes.{graph_of}
use Rattle.cert_graph.proofs.NodeFacts.{usable_is_certificate}
use Rattle.cert_graph.proofs.OneInventory.{one_inventory}
use Rattle.cert_graph.proofs.laws.law_one_true_inventory.Goals as goal

pub returns : goal.returns
returns c = λ nodes inventory other h k. one_inventory (graph_of nodes) (usable_is_certificate nodes) inventory other h k
