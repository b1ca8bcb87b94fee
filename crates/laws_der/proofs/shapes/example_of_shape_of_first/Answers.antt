use Rattle.std.proofs.Common.{refl, arith}
use Rattle.laws_der.proofs.OfTrees.{parts, five_is_element}
use Rattle.laws_der.proofs.shapes.example_of_shape_of_first.Goals as goal

pub returns-clause-found : goal.returns-clause-found
returns-clause-found c = (parts 1 (omega arith), refl)

pub returns-clause-only : goal.returns-clause-only
returns-clause-only c = (five_is_element, refl)
