use Rattle.std.proofs.Common.{◌≡◌, ◌∙◌, sym, [], map, refl}
use Rattle.cert_judge.specs.Items.{item_of}
use Rattle.cert_judge.proofs.Mapped.{not_both}
use Rattle.certpath_why.proofs.Items.{none_read, read_subject, subject_certificate}
use Rattle.certpath_why.proofs.Backing.{issued_there}
use Rattle.certpath_why.proofs.bounds.may_hold_back.Goals as goal

pub why_unlinked_to_anchor-requires-clause-issuer : goal.why_unlinked_to_anchor-requires-clause-issuer
why_unlinked_to_anchor-requires-clause-issuer g c =
    let l = c.args.linking.now in
    read_subject l.items.now c.args.issuer c.in-Some.item.now l.certificate.now.issuer.now (rw c.items.ensures at c.in-Some.ensures.found) c.requires.subject

pub returns-then-not-takes_none_below : goal.returns-then-not-takes_none_below
returns-then-not-takes_none_below g c =
    (λ t. absurd (not_both _ t refl), λ h. absurd (not_both _ (c.takes_none_below.ensures.1 (c.reach_in.ensures ∙ h.0)) c.if-not-takes_none_below.true))

pub returns-in_default : goal.returns-in_default
returns-in_default g c =
    let l = c.args.linking.now in
    absurd (none_read l.items.now c.args.issuer (rw c.items.ensures at (c.in_default.ensures.only refl)) (subject_certificate (map item_of l.items.now) l.certificate.now.issuer.now c.args.issuer c.requires.subject))

pub returns : goal.returns
returns g c =
    let l = c.args.linking.now in
    let there = issued_there (g.V.Vouch.vouches_for c.args.vouch.now) l.policy.moment l.policy.demand_lists l.items.now l.certificate.now c.in-Some.item.now c.args.issuer (c.in_ok-reasons.reasons.items ≡ []) (rw c.items.ensures at c.in-Some.ensures.found) c.requires.subject (λ is. c.in_ok-reasons.ensures.none) in
    let none = rw c.deref.ensures.value at c.is_none.ensures in
    (λ e. (sym c.reach_in.ensures ∙ c.takes_none_below.ensures.0 c.if-not-takes_none_below.false, there.0 (none.0 e)), λ h. none.1 (there.1 h.1))
