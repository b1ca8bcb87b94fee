use Rattle.certpath_inputs.proofs.DemandFacts.{of_ok}
use Rattle.certpath_run.proofs.reporting.why_within.Goals as goal

pub returns : goal.returns
returns c = of_ok _ _ (λ r h. (c.in_ok-permits.permits, c.in_ok-permits.ensures, h)) c.why_by.result c.why_by.ensures
