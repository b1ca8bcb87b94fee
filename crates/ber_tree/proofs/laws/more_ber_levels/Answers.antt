use Rattle.ber_tree.proofs.Higher.{higher_object}
use Rattle.ber_tree.proofs.laws.more_ber_levels.Goals as goal

pub returns : goal.returns
returns c = higher_object
