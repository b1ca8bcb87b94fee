use Rattle.laws_graph.proofs.OfNodes.{first}
use Rattle.laws_graph.proofs.nodes.example_of_true_answers.Goals as goal

pub returns : goal.returns
returns c = (first c.args.alloc, first c.args.alloc)
