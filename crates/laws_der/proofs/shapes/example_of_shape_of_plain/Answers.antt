use Rattle.std.proofs.Common.{refl, arith}
use Rattle.laws_der.proofs.OfTrees.{five_is_object, five_is_element}
use Rattle.laws_der.proofs.shapes.example_of_shape_of_plain.Goals as goal

pub returns-clause-found : goal.returns-clause-found
returns-clause-found c = (five_is_object 1 (omega arith), refl)

pub returns-clause-only : goal.returns-clause-only
returns-clause-only c = (five_is_element, refl)

pub returns-clause-element : goal.returns-clause-element
returns-clause-element c = (five_is_element, refl)
