use Rattle.std.proofs.Common.{refl}
use Rattle.laws_graph.proofs.OfGraphs.{nodes_carried}
use Rattle.laws_graph.proofs.graphs.example_of_carried_paths.Goals as goal

pub returns : goal.returns
returns c = λ nodes target. (nodes_carried nodes, refl)
