use Rattle.std.proofs.Common.{refl}
use Rattle.laws_der.proofs.OfTrees.{set_is_object, set_is_element}
use Rattle.laws_der.proofs.shapes.example_of_shape_of_set.Goals as goal

pub returns-clause-found : goal.returns-clause-found
returns-clause-found c = (set_is_object, refl)

pub returns-clause-only : goal.returns-clause-only
returns-clause-only c = (set_is_element, refl)
