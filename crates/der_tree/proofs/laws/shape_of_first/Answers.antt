use Rattle.der_tree.proofs.Shapes.{first_found, first_only}
use Rattle.der_tree.proofs.laws.shape_of_first.Goals as goal

pub returns-clause-found : goal.returns-clause-found
returns-clause-found c = first_found

pub returns-clause-only : goal.returns-clause-only
returns-clause-only c = first_only
