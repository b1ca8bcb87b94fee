use Rattle.std.proofs.Common.{refl}
use Rattle.laws_der.proofs.OfTrees.{oid_is_object, oid_is_element}
use Rattle.laws_der.proofs.shapes.example_of_shape_of_oid.Goals as goal

pub returns-clause-found : goal.returns-clause-found
returns-clause-found c = (oid_is_object, refl)

pub returns-clause-only : goal.returns-clause-only
returns-clause-only c = (oid_is_element, refl)
