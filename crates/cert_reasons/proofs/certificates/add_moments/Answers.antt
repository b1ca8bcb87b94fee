use Rattle.cert_model.specs.View.{time_view, certificate_view}
use Rattle.cert_reasons.specs.Certificates.{HasReason, order_of}
use Rattle.std.proofs.Common.{arith}
use Rattle.cert_reasons.proofs.Ordered.{up_next}
use Rattle.cert_reasons.proofs.Certain.{moment_place}
use Rattle.cert_reasons.proofs.certificates.add_moments.Goals as goal

pub add-requires-2 : goal.add-requires-2
add-requires-2 g c =
    up_next order_of (HasReason ((g.V.Vouch.vouches_for c.args.vouch.now).Processes c.args.item.now) (time_view c.args.moment.now) (certificate_view c.args.fields.now)) c.add.new.found.items 0 1 c.in_ok-add.ensures (λ r s e. moment_place r 0 e (omega arith))

pub returns : goal.returns
returns g c =
    up_next order_of (HasReason ((g.V.Vouch.vouches_for c.args.vouch.now).Processes c.args.item.now) (time_view c.args.moment.now) (certificate_view c.args.fields.now)) c.add-2.new.found.items 1 1 c.in_ok-add-2.ensures (λ r s e. moment_place r 1 e (omega arith))
