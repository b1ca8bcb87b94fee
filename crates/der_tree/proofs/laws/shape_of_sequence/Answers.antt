use Rattle.der_tree.proofs.Shapes.{sequence_found, sequence_only}
use Rattle.der_tree.proofs.laws.shape_of_sequence.Goals as goal

pub returns-clause-found : goal.returns-clause-found
returns-clause-found c = sequence_found

pub returns-clause-only : goal.returns-clause-only
returns-clause-only c = sequence_only
