use Rattle.laws_graph.proofs.OfNodes.{adequate}
use Rattle.laws_graph.proofs.nodes.example_of_an_adequate_answer.Goals as goal

pub returns : goal.returns
returns c = adequate c.args.alloc
