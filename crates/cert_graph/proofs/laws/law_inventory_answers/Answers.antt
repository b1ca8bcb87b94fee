-- A true verdict against a true answer.
use Rattle.cert_graph.specs.Nodes.{graph_of}
use Rattle.cert_graph.proofs.NodeFacts.{usable_is_certificate}
use Rattle.cert_graph.proofs.OneInventory.{inventory_answers}
use Rattle.cert_graph.proofs.laws.law_inventory_answers.Goals as goal

pub returns : goal.returns
returns c = λ nodes inventory target answer h lt k. inventory_answers (graph_of nodes) (usable_is_certificate nodes) inventory target answer h lt k
