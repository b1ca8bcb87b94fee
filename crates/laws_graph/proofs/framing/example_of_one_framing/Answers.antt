use Rattle.laws_graph.proofs.OfFraming.{framing}
use Rattle.laws_graph.proofs.framing.example_of_one_framing.Goals as goal

pub returns : goal.returns
returns c = framing
