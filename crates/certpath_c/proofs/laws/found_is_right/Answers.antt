use Rattle.certpath_c.proofs.FoundIsRight.{found_is_right}
use Rattle.certpath_c.proofs.laws.found_is_right.Goals as goal

pub returns : goal.returns
returns c = found_is_right c.one_framing.ensures
