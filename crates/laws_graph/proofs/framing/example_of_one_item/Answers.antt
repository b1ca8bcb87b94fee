use Rattle.std.proofs.Common.{refl}
use Rattle.laws_graph.proofs.OfFraming.{item}
use Rattle.laws_graph.proofs.framing.example_of_one_item.Goals as goal

pub returns : goal.returns
returns c = (item, refl)
