use Rattle.std.proofs.Common.{refl, arith}
use Rattle.laws_der.proofs.OfTrees.{list_is_object, list_is_element}
use Rattle.laws_der.proofs.shapes.example_of_shape_of_sequence.Goals as goal

pub returns-clause-found : goal.returns-clause-found
returns-clause-found c = (list_is_object 2 (omega arith), refl)

pub returns-clause-only : goal.returns-clause-only
returns-clause-only c = (list_is_element, refl)
