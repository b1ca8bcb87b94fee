use Rattle.ber_tree.proofs.OneTree.{one_tree_lem}
use Rattle.ber_tree.proofs.laws.one_ber_tree.Goals as goal

pub returns : goal.returns
returns c = one_tree_lem
