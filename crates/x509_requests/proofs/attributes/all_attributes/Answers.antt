use Rattle.std.proofs.Common.{◌≡◌, ◌∙◌, sym, subst, map, length, ◌<◌, arith}
use Rattle.std.specs.Prelude.{All}
use Rattle.std.proofs.lemmas.Grind.{common_steps}
use Rattle.std.proofs.lemmas.List.{map-append, nil_from_length}
use Rattle.std.proofs.lemmas.List.Elements.{All-push}
use Rattle.x509_core.proofs.Many.{many_more, many_stops, refused_by}
use Rattle.x509_ext.specs.Values.{deeply}
use Rattle.x509_requests.specs.Reading.{attribute_at}
use Rattle.x509_requests.specs.View.{attribute_view, IsCountedAttribute, AttributeWantsNoMemory}
use Rattle.x509_requests.proofs.AttributeLaws.{all_stop, all_end}
use Rattle.x509_requests.proofs.attributes.all_attributes.Goals as goal

pub loop-left-preserved : goal.loop-left-preserved
loop-left-preserved c =
    let step = many_more (attribute_at deeply) (map attribute_view c.loop-left.attributes.items) c.loop-left.left.now c.in-Ok.rest.now (attribute_view c.in-Ok.attribute) c.in-Ok.ensures.read c.in-Ok.ensures.shorter in
    record {
      read = rw (c.in_ok-push-in-Ok.ensures.items, map-append) (sym step ∙ c.loop-left.invariant.read);
      counted = subst (All IsCountedAttribute) (sym c.in_ok-push-in-Ok.ensures.items) (All-push IsCountedAttribute c.loop-left.attributes.items _ c.loop-left.invariant.counted c.in-Ok.ensures.counted);
      memory = subst (All AttributeWantsNoMemory) (sym c.in_ok-push-in-Ok.ensures.items) (All-push AttributeWantsNoMemory c.loop-left.attributes.items _ c.loop-left.invariant.memory c.in-Ok.ensures.memory);
    }

pub returns-in_default : goal.returns-in_default
returns-in_default c =
    let refused = refused_by c.in-Err.refusal (attribute_at deeply c.loop-left.left.now) c.in-Err.ensures.read (λ x is. c.in_default.not-Failure x is) in
    let stop = many_stops (attribute_at deeply) (map attribute_view c.loop-left.attributes.items) c.loop-left.left.now refused.0 refused.1 in
    let some : 0 < length c.loop-left.left.now = grind (arith, common_steps) in
    record { read = (λ e. cc, all_stop deeply c.args.octets.now c.loop-left.left.now (map attribute_view c.loop-left.attributes.items) (sym c.loop-left.invariant.read ∙ stop) some); counted = tt; memory = tt }

pub returns : goal.returns
returns c =
    let short : length c.loop-left.left.now ≡ 0 = grind (arith, common_steps) in
    record { read = all_end deeply c.args.octets.now c.loop-left.left.now (map attribute_view c.loop-left.attributes.items) c.loop-left.invariant.read (nil_from_length c.loop-left.left.now short); counted = c.loop-left.invariant.counted; memory = c.loop-left.invariant.memory }
