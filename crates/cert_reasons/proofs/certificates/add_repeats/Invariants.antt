use Rattle.cert_model.specs.View.{time_view, certificate_view}
use Rattle.cert_reasons.specs.Order.{AreUpTo}
use Rattle.cert_reasons.specs.Certificates.{HasReason, order_of}
use Rattle.cert_reasons.proofs.certificates.add_repeats.Given as goal

abbrev pub invariant-loop-place : goal.invariant-loop-place
invariant-loop-place g l = AreUpTo order_of (HasReason ((g.V.Vouch.vouches_for l.vouch).Processes l.item) (time_view l.moment) (certificate_view l.fields)) (2, l.place) l.found.items
