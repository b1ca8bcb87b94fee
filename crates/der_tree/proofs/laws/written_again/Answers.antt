use Rattle.der_tree.proofs.Encoded.{encoded_same}
use Rattle.der_tree.proofs.laws.written_again.Goals as goal

pub returns : goal.returns
returns c = encoded_same
