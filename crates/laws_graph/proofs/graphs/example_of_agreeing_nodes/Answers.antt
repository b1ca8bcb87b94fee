use Rattle.laws_graph.proofs.OfGraphs.{nodes_agree}
use Rattle.laws_graph.proofs.graphs.example_of_agreeing_nodes.Goals as goal

pub returns : goal.returns
returns c = nodes_agree
