use Rattle.cert_model.specs.View.{attr_view}
use Rattle.x509_names.specs.View.{attribute_view}
use Rattle.certpath_typed.specs.Told.{TellsAttribute}
use Rattle.certpath_typed.proofs.Zipped.{rest_step, rest_none}
use Rattle.certpath_typed.proofs.parts.attribute_fields.Goals as goal

pub loop-attribute-preserved : goal.loop-attribute-preserved
loop-attribute-preserved c =
    rest_step (TellsAttribute c.args.item.now) attribute_view attr_view _ _ _ _ _ _ _ c.in-Some.ensures.steps c.in_ok-push.ensures.items c.loop-attribute.invariant c.attribute_field.ensures

pub returns : goal.returns
returns c = rest_none (TellsAttribute c.args.item.now) attribute_view attr_view _ _ _ c.in-None.ensures.steps.0 c.loop-attribute.invariant
