use Rattle.std.proofs.Common.{inl, inr}
use Rattle.certpath_engine.proofs.words.asked_question.Goals as goal

pub returns-in-Err-host_of-clause-refused : goal.returns-in-Err-host_of-clause-refused
returns-in-Err-host_of-clause-refused c = inr (inl ((c.in-Ok.settings, c.in-Ok.ensures.ok), c.in-Err-host_of.ensures.refused))

pub returns-in-Err-purpose_of-clause-refused : goal.returns-in-Err-purpose_of-clause-refused
returns-in-Err-purpose_of-clause-refused c =
    inr (inr ((c.in-Ok.settings, c.in-Ok.ensures.ok), (c.in-Ok-host_of.host, c.in-Ok-host_of.ensures.ok), c.in-Err-purpose_of.ensures.refused))
