use Rattle.der_tree.proofs.Shapes.{plain_found, plain_only}
use Rattle.der_tree.proofs.laws.shape_of_plain.Goals as goal

pub returns-clause-found : goal.returns-clause-found
returns-clause-found c = plain_found

pub returns-clause-only : goal.returns-clause-only
returns-clause-only c = plain_only
