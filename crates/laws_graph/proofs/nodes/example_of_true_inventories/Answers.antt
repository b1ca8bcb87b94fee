use Rattle.laws_graph.proofs.OfNodes.{true_bare, true_whole}
use Rattle.laws_graph.proofs.nodes.example_of_true_inventories.Goals as goal

pub returns : goal.returns
returns c = (true_whole c.args.alloc, true_bare c.args.alloc)
