use Rattle.std.proofs.Common.{◌≡◌, ◌+◌, length, map, get_or, arith, sym, subst}
use Rattle.std.proofs.lemmas.List.Elements.{Contains-get_or}
use Rattle.cert_graph.proofs.Sifted.{sifted_none, sifted_more, sifted_same, sifted_whole, nothing_added}
use Rattle.cert_judge.specs.Items.{item_of, rules_by}
use Rattle.cert_judge.proofs.Mapped.{not_both}
use Rattle.certpath_why.specs.Bounds.{reach_by}
use Rattle.certpath_why.specs.Held.{MayHoldBack}
use Rattle.certpath_why.proofs.bounds.holding_among.Goals as goal

pub loop-issuer-init : goal.loop-issuer-init
loop-issuer-init g c = rw c.new-found.ensures.items (sifted_none 0 (MayHoldBack (rules_by c.args.linking.now.policy.moment c.args.linking.now.policy.demand_lists (g.V.Vouch.vouches_for c.args.vouch.now)) (map item_of c.args.linking.now.items.now) (reach_by c.args.answer.now) c.args.linking.now.certificate.now) c.args.issuers.now)

pub may_hold_back-requires-clause-subject : goal.may_hold_back-requires-clause-subject
may_hold_back-requires-clause-subject g c = c.requires.issuers _ (Contains-get_or c.args.issuers.now c.loop-issuer.issuer-index 0 c.loop-issuer-test.true)

pub loop-issuer-preserved-then-not-may : goal.loop-issuer-preserved-then-not-may
loop-issuer-preserved-then-not-may g c =
    let H = MayHoldBack (rules_by c.args.linking.now.policy.moment c.args.linking.now.policy.demand_lists (g.V.Vouch.vouches_for c.args.vouch.now)) (map item_of c.args.linking.now.items.now) (reach_by c.args.answer.now) c.args.linking.now.certificate.now in
    let p = get_or c.args.issuers.now c.loop-issuer.issuer-index 0 in
    sifted_same 0 H c.args.issuers.now c.loop-issuer.issuer-index c.loop-issuer.found.items c.loop-issuer.invariant
    (λ v at d. not_both _ (c.in_ok-may.ensures.1 (subst H (sym (nothing_added p v at)) d)) c.if-not-may.true)

pub loop-issuer-preserved : goal.loop-issuer-preserved
loop-issuer-preserved g c =
    let H = MayHoldBack (rules_by c.args.linking.now.policy.moment c.args.linking.now.policy.demand_lists (g.V.Vouch.vouches_for c.args.vouch.now)) (map item_of c.args.linking.now.items.now) (reach_by c.args.answer.now) c.args.linking.now.certificate.now in
    let p = get_or c.args.issuers.now c.loop-issuer.issuer-index 0 in
    let at : p ≡ 0 + p = omega arith in
    rw c.in_ok-push.ensures.items (sifted_more 0 H c.args.issuers.now c.loop-issuer.issuer-index c.loop-issuer.found.items p c.requires.ascends c.loop-issuer-test.true c.loop-issuer.invariant at (c.in_ok-may.ensures.0 c.if-not-may.false))

pub returns : goal.returns
returns g c =
    let H = MayHoldBack (rules_by c.args.linking.now.policy.moment c.args.linking.now.policy.demand_lists (g.V.Vouch.vouches_for c.args.vouch.now)) (map item_of c.args.linking.now.items.now) (reach_by c.args.answer.now) c.args.linking.now.certificate.now in
    let end : c.loop-issuer.issuer-index ≡ length c.args.issuers.now = omega arith in
    record { ascends = c.loop-issuer.invariant.ascends; exact = sifted_whole H c.args.issuers.now c.loop-issuer.issuer-index c.loop-issuer.found.items end c.loop-issuer.invariant }
