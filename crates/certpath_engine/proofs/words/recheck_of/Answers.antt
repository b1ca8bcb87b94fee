use Rattle.std.proofs.Common.{inr}
use Rattle.certpath_engine.proofs.words.recheck_of.Goals as goal

pub returns-in-Err-purpose_of : goal.returns-in-Err-purpose_of
returns-in-Err-purpose_of c = inr ((c.in-Ok.settings, c.in-Ok.ensures.ok), c.in-Err-purpose_of.ensures.refused)
