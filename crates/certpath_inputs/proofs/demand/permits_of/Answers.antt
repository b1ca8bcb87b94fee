use Rattle.std.proofs.Common.{◌∙◌, ap, subst, IfOk}
use Rattle.certpath_inputs.specs.Demands.{ArePermitsOf, demanded}
use Rattle.certpath_inputs.proofs.DemandFacts.{both_ok}
use Rattle.certpath_inputs.proofs.demand.permits_of.Goals as goal

pub returns : goal.returns
returns c =
    subst (λ d. IfOk c.new.result (λ p. ArePermitsOf d c.args.items.now.items p)) (c.demands_of-demands.ensures ∙ ap (λ t. demanded c.args.demand.now t) c.octets_at.ensures)
    (both_ok _ _ c.new.result c.new.ensures.permits c.new.ensures.processes)
