use Rattle.cert_model.specs.View.{time_view, certificate_view}
use Rattle.cert_reasons.specs.Certificates.{HasReason, order_of}
use Rattle.cert_judge.proofs.Mapped.{not_both}
use Rattle.cert_reasons.proofs.Ordered.{up_more, up_same}
use Rattle.cert_reasons.proofs.Certain.{same_reason}
use Rattle.cert_reasons.proofs.certificates.add_if.Goals as goal

pub returns-in_ok-push : goal.returns-in_ok-push
returns-in_ok-push g c =
    rw c.in_ok-push.ensures.items (up_more order_of (HasReason ((g.V.Vouch.vouches_for c.args.vouch.now).Processes c.args.item.now) (time_view c.args.moment.now) (certificate_view c.args.fields.now)) c.args.found.now.items c.args.reason (λ r e. same_reason r c.args.reason e) c.requires.before (c.requires.applies.0 c.if-applies.true))

pub returns-else-applies : goal.returns-else-applies
returns-else-applies g c =
    up_same order_of (HasReason ((g.V.Vouch.vouches_for c.args.vouch.now).Processes c.args.item.now) (time_view c.args.moment.now) (certificate_view c.args.fields.now)) c.args.found.now.items c.args.reason (λ r e. same_reason r c.args.reason e) c.requires.before (λ s. not_both _ (c.requires.applies.1 s) c.if-applies.false)
