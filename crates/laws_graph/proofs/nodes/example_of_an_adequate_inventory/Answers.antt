use Rattle.laws_graph.proofs.OfNodes.{inventory}
use Rattle.laws_graph.proofs.nodes.example_of_an_adequate_inventory.Goals as goal

pub returns : goal.returns
returns c = inventory c.args.alloc
