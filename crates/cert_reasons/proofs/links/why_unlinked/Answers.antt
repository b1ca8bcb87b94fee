use Rattle.std.specs.Prelude.{IsTrue}
use Rattle.std.proofs.Common.{map, sym, ◌∙◌, refl}
use Rattle.cert_judge.specs.ItemGraph.{KeyIdsAgree}
use Rattle.cert_judge.specs.Items.{certificate_of, certificate_item, item_of, rules_by}
use Rattle.cert_reasons.specs.Links.{HasLinkReason, link_order}
use Rattle.cert_reasons.proofs.Marks.{agreed, link_iff}
use Rattle.cert_reasons.proofs.Ordered.{all_as}
use Rattle.cert_reasons.proofs.links.why_unlinked.Goals as goal

pub returns-clause-all : goal.returns-clause-all
returns-clause-all g c =
    let r = rules_by c.args.policy.now.moment c.args.policy.now.demand_lists (g.V.Vouch.vouches_for c.args.vouch.now) in
    let x = c.args.certificate.now in
    let y = c.args.issuer.now in
    let items = map item_of c.args.items.now in
    all_as link_order (HasLinkReason r items (certificate_item x) (certificate_of x) y.subject.now y.key.now (IsTrue c.agree_on_key_id.result)) (HasLinkReason r items (certificate_item x) (certificate_of x) y.subject.now y.key.now (KeyIdsAgree (certificate_of x) (certificate_of y)))
    c.in_ok-found.found.items c.in_ok-found.ensures.all (agreed r items (certificate_item x) (certificate_of x) y.subject.now y.key.now (IsTrue c.agree_on_key_id.result) (KeyIdsAgree (certificate_of x) (certificate_of y)) c.agree_on_key_id.ensures)

pub returns-clause-none : goal.returns-clause-none
returns-clause-none g c = λ named.
    let r = rules_by c.args.policy.now.moment c.args.policy.now.demand_lists (g.V.Vouch.vouches_for c.args.vouch.now) in
    let x = c.args.certificate.now in
    let y = c.args.issuer.now in
    let under = c.in_ok-found.ensures.none (sym x.issuer_is ∙ named) in
    let link = link_iff r (map item_of c.args.items.now) (certificate_item x) (certificate_item y) (certificate_of x) (certificate_of y) y.subject.now y.key.now (IsTrue c.agree_on_key_id.result) refl refl y.subject_is y.key_is c.agree_on_key_id.ensures in
    (λ e. link.0 (under.0 e), λ l. under.1 (link.1 l))
