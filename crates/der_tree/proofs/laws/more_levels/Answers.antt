use Rattle.der_tree.proofs.OneTree.{higher_tree}
use Rattle.der_tree.proofs.laws.more_levels.Goals as goal

pub returns : goal.returns
returns c = higher_tree
