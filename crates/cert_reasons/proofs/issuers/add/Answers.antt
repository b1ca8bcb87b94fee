use Rattle.cert_model.specs.View.{certificate_view}
use Rattle.cert_reasons.specs.Issuers.{HasIssuerReason, issuer_order}
use Rattle.cert_judge.proofs.Mapped.{not_both}
use Rattle.cert_reasons.proofs.Ordered.{up_more, up_same}
use Rattle.cert_reasons.proofs.OfIssuers.{same_reason}
use Rattle.cert_reasons.proofs.issuers.add.Goals as goal

pub returns-in_ok-push : goal.returns-in_ok-push
returns-in_ok-push c =
    rw c.in_ok-push.ensures.items (up_more issuer_order (HasIssuerReason (certificate_view c.args.fields.now)) c.args.found.now.items c.args.reason (λ r e. same_reason r c.args.reason e) c.requires (c.has_issuer_reason.ensures.0 c.if-has_issuer_reason.true))

pub returns-else-has_issuer_reason : goal.returns-else-has_issuer_reason
returns-else-has_issuer_reason c =
    up_same issuer_order (HasIssuerReason (certificate_view c.args.fields.now)) c.args.found.now.items c.args.reason (λ r e. same_reason r c.args.reason e) c.requires (λ s. not_both _ (c.has_issuer_reason.ensures.1 s) c.if-has_issuer_reason.false)
