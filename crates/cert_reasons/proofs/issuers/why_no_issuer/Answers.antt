use Rattle.cert_model.specs.View.{certificate_view}
use Rattle.cert_reasons.specs.Issuers.{HasIssuerReason, issuer_order}
use Rattle.cert_judge.specs.Judging.{MayIssue}
use Rattle.cert_judge.proofs.Mapped.{not_both}
use Rattle.cert_reasons.proofs.Ordered.{up_all}
use Rattle.cert_reasons.proofs.OfIssuers.{kinds_end, all_of_issuer, none_stands, not_unfit}
use Rattle.cert_reasons.proofs.issuers.why_no_issuer.Goals as goal

pub returns-then-issues-clause-all : goal.returns-then-issues-clause-all
returns-then-issues-clause-all c =
    rw c.new-found.ensures.items (all_of_issuer (certificate_view c.args.fields.now) (c.issues.ensures.0 c.if-issues.true))

pub returns-clause-all : goal.returns-clause-all
returns-clause-all c =
    up_all issuer_order (HasIssuerReason (certificate_view c.args.fields.now)) c.add_policy_constraints.new.found.items 4 c.in_ok-add_policy_constraints.ensures kinds_end

pub returns-clause-none : goal.returns-clause-none
returns-clause-none c =
    let f = certificate_view c.args.fields.now in
    let all = up_all issuer_order (HasIssuerReason f) c.add_policy_constraints.new.found.items 4 c.in_ok-add_policy_constraints.ensures kinds_end in
    let unfit : MayIssue f.extensions → ⊥ = λ u. not_both _ (c.issues.ensures.1 u) c.if-issues.false in
    (λ e. absurd (not_unfit f (none_stands f c.add_policy_constraints.new.found.items all e) unfit), λ u. absurd (unfit u))
