use Rattle.der_tree.proofs.Shapes.{oid_found, oid_only}
use Rattle.der_tree.proofs.laws.shape_of_oid.Goals as goal

pub returns-clause-found : goal.returns-clause-found
returns-clause-found c = oid_found

pub returns-clause-only : goal.returns-clause-only
returns-clause-only c = oid_only
