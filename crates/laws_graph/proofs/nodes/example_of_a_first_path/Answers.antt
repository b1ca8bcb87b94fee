use Rattle.laws_graph.proofs.OfNodes.{first}
use Rattle.laws_graph.proofs.nodes.example_of_a_first_path.Goals as goal

pub returns : goal.returns
returns c = first c.args.alloc
