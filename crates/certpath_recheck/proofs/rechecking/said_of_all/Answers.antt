-- If the inputs end the run, and if all is read.
use Rattle.certpath_recheck.proofs.RecheckFacts.{run_uses, has_said}
use Rattle.certpath_recheck.proofs.rechecking.said_of_all.Goals as goal

pub returns-in-Err-clause-uses : goal.returns-in-Err-clause-uses
returns-in-Err-clause-uses g c = run_uses c.in-Err.error _ _ _ _ _ _ _ c.in-Err.ensures.not_write c.in-Err.ensures.uses

pub returns-in-Ok-said_of-clause-ok : goal.returns-in-Ok-said_of-clause-ok
returns-in-Ok-said_of-clause-ok g c =
    has_said c.args.settings.now c.args.purpose _ _ _ _ _ _ _ _ _ _ _ _ _ _ _ c.in-Ok.ensures.ok c.in-Ok-text_of.ensures.ok c.deref.ensures.value c.in-Ok-inventory_for.ensures.ok c.in-Ok-said_of.ensures
