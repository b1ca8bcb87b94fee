use Rattle.std.proofs.Common.{refl}
use Rattle.laws_judge.proofs.OfPaths.{list_is_none, other_is_none}
use Rattle.laws_judge.proofs.judging.example_of_others.Goals as goal

pub returns-clause-bundle : goal.returns-clause-bundle
returns-clause-bundle c = (refl, refl)

pub returns-clause-anchors : goal.returns-clause-anchors
returns-clause-anchors c = (other_is_none 3, list_is_none 4)
