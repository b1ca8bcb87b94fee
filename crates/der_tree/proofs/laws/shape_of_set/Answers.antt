use Rattle.der_tree.proofs.Shapes.{set_found, set_only}
use Rattle.der_tree.proofs.laws.shape_of_set.Goals as goal

pub returns-clause-found : goal.returns-clause-found
returns-clause-found c = set_found

pub returns-clause-only : goal.returns-clause-only
returns-clause-only c = set_only
