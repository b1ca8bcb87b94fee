use Rattle.std.proofs.Math.Dec.{lit<}
use Rattle.laws_graph.proofs.OfNodes.{first, true_whole}
use Rattle.laws_graph.proofs.nodes.example_of_an_answer_in_an_inventory.Goals as goal

pub returns : goal.returns
returns c = (true_whole c.args.alloc, lit< tt, first c.args.alloc)
