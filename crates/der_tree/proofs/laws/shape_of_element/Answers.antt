use Rattle.der_tree.proofs.Shapes.{element_found, element_only}
use Rattle.der_tree.proofs.laws.shape_of_element.Goals as goal

pub returns-clause-found : goal.returns-clause-found
returns-clause-found c = element_found

pub returns-clause-only : goal.returns-clause-only
returns-clause-only c = element_only
