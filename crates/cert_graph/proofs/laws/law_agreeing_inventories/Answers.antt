-- The table, and verdict by verdict.
use Rattle.cert_graph.specs.Nodes.{graph_of}
use Rattle.cert_graph.proofs.NodeFacts.{fit_is_usable}
use Rattle.cert_graph.proofs.AgreeingInventories.{agreed_inventory}
use Rattle.cert_graph.proofs.laws.law_agreeing_inventories.Goals as goal

pub returns : goal.returns
returns c = λ nodes other e inventory. agreed_inventory (graph_of nodes) (graph_of other) e (fit_is_usable nodes) inventory
