use Rattle.std.proofs.Common.{refl}
use Rattle.laws_graph.proofs.OfFraming.{stands, unfed_stands, pieces}
use Rattle.laws_graph.proofs.framing.example_of_one_bundle.Goals as goal

pub returns-clause-held : goal.returns-clause-held
returns-clause-held c = (refl, refl, stands)

pub returns-clause-pieces : goal.returns-clause-pieces
returns-clause-pieces c = (refl, unfed_stands, pieces, refl)
