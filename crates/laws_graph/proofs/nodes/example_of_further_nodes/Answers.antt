use Rattle.laws_graph.proofs.OfNodes.{further}
use Rattle.laws_graph.proofs.nodes.example_of_further_nodes.Goals as goal

pub returns : goal.returns
returns c = further c.args.alloc
