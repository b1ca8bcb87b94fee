use Rattle.cert_reasons.specs.Found.{HasFoundReason}
use Rattle.cert_reasons.specs.Links.{link_order}
use Rattle.cert_judge.proofs.Mapped.{not_both}
use Rattle.cert_reasons.proofs.Ordered.{up_more, up_same}
use Rattle.cert_reasons.proofs.OfLinks.{same_reason}
use Rattle.cert_reasons.proofs.links.add.Goals as goal

pub returns-in_ok-push : goal.returns-in_ok-push
returns-in_ok-push c =
    rw c.in_ok-push.ensures.items (up_more link_order (HasFoundReason c.args.findings.now) c.args.found.now.items c.args.reason (λ r e. same_reason r c.args.reason e) c.requires.before (c.requires.applies.0 c.if-applies.true))

pub returns-else-applies : goal.returns-else-applies
returns-else-applies c =
    up_same link_order (HasFoundReason c.args.findings.now) c.args.found.now.items c.args.reason (λ r e. same_reason r c.args.reason e) c.requires.before (λ s. not_both _ (c.requires.applies.1 s) c.if-applies.false)
