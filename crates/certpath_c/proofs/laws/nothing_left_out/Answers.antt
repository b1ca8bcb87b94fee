use Rattle.certpath_c.proofs.LeftOut.{nothing_left_out}
use Rattle.certpath_c.proofs.laws.nothing_left_out.Goals as goal

pub returns : goal.returns
returns c = nothing_left_out
