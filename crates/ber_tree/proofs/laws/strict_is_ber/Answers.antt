use Rattle.ber_tree.proofs.Strict.{strict_object}
use Rattle.ber_tree.proofs.laws.strict_is_ber.Goals as goal

pub returns : goal.returns
returns c = strict_object
