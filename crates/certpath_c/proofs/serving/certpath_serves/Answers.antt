use Rattle.std.proofs.Common.{refl, inl, inr}
use Rattle.certpath_c.proofs.serving.certpath_serves.Goals as goal

pub returns-in_default : goal.returns-in_default
returns-in_default c = inr (c.in-Ok.asked, c.in-Ok.ensures, inr (refl, refl))

pub returns-in-Err : goal.returns-in-Err
returns-in-Err c = inl (c.in-Err.refusal, c.in-Err.ensures, refl, c.reason_number.ensures)
