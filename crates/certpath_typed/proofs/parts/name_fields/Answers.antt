use Rattle.std.proofs.Common.{map}
use Rattle.cert_model.specs.View.{attr_view}
use Rattle.x509_names.specs.View.{set_view}
use Rattle.certpath_typed.specs.Told.{TellsSet}
use Rattle.certpath_typed.proofs.Zipped.{rest_step, rest_none}
use Rattle.certpath_typed.proofs.parts.name_fields.Goals as goal

pub loop-set-preserved : goal.loop-set-preserved
loop-set-preserved c =
    rest_step (TellsSet c.args.item.now) set_view (λ set. map attr_view set.items) _ _ _ _ _ _ _ c.in-Some.ensures.steps c.in_ok-push.ensures.items c.loop-set.invariant c.in_ok-attribute_fields.ensures

pub returns : goal.returns
returns c = rest_none (TellsSet c.args.item.now) set_view (λ set. map attr_view set.items) _ _ _ c.in-None.ensures.steps.0 c.loop-set.invariant
