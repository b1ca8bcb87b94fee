use Rattle.cert_model.specs.View.{time_view, certificate_view}
use Rattle.cert_reasons.specs.Certificates.{HasReason, order_of}
use Rattle.std.proofs.Common.{◌≤◌, length, arith}
use Rattle.std.proofs.lemmas.List.{length-map}
use Rattle.cert_model.specs.View.{ext_view}
use Rattle.cert_reasons.proofs.Ordered.{up_next}
use Rattle.cert_reasons.proofs.Certain.{extension_place}
use Rattle.cert_reasons.proofs.certificates.add_unprocessed.Goals as goal

pub returns : goal.returns
returns g c =
    let long = length-map c.args.fields.now.extensions.items ext_view in
    let view = certificate_view c.args.fields.now in
    let over = rw c.as_slice-extensions.ensures.value at c.loop-place-test.false in
    let end : length view.extensions ≤ c.loop-place.place = omega arith in
    up_next order_of (HasReason ((g.V.Vouch.vouches_for c.args.vouch.now).Processes c.args.item.now) (time_view c.args.moment.now) view) c.loop-place.found.items 3 c.loop-place.place c.loop-place.invariant
    (λ r s e. extension_place ((g.V.Vouch.vouches_for c.args.vouch.now).Processes c.args.item.now) (time_view c.args.moment.now) view r c.loop-place.place 3 s e (omega arith) end)
