use Rattle.std.proofs.Common.{ap, sym, Some}
use Rattle.std.specs.List.{Contains}
use Rattle.cert_judge.specs.declared.items.ReadItem.TheVariants.{Certificate as certificate_read}
use Rattle.cert_judge.specs.Items.{certificate_item}
use Rattle.certpath_why.specs.Bounds.{reach_by}
use Rattle.certpath_why.specs.Held.{search_rules, MayHoldBack}
use Rattle.certpath_why.specs.Question.{items_in}
use Rattle.certpath_why.proofs.Backing.{issued_signed}
use Rattle.certpath_why.proofs.Grouped.{signed_less, signed_named}
use Rattle.certpath_why.proofs.Naming.{gathered_as}
use Rattle.certpath_why.proofs.bounds.holding_of.Goals as goal

pub issuers_at-requires-clause-place : goal.issuers_at-requires-clause-place
issuers_at-requires-clause-place g c = c.requires.at.0

pub holding_among-requires-clause-issuers : goal.holding_among-requires-clause-issuers
holding_among-requires-clause-issuers g c =
    let q = c.args.question.now in
    let x = c.args.certificate.now in
    let signers = c.in_ok-signers.ensures (certificate_read x) c.requires.at (ap Some (sym x.issuer_is)) in
    rw (c.deref.ensures.value, c.in_ok-linking.ensures.items, c.in_ok-linking.ensures.certificate) (λ w at. signed_named (g.V.Vouch.vouches_for q.vouch.now).Vouches (items_in q) x w ((signers.exact w).0 at))

pub holding_among-requires-clause-ascends : goal.holding_among-requires-clause-ascends
holding_among-requires-clause-ascends g c =
    let x = c.args.certificate.now in
    let signers = c.in_ok-signers.ensures (certificate_read x) c.requires.at (ap Some (sym x.issuer_is)) in
    rw c.deref.ensures.value signers.ascends

pub new-requires : goal.new-requires
new-requires g c = rw c.deref-2.ensures.value c.in_ok-holding.ensures.ascends

pub returns : goal.returns
returns g c =
    let q = c.args.question.now in
    let x = c.args.certificate.now in
    let r = search_rules q (g.S.Vouch.vouches_for c.args.searched.now.vouch.now) in
    let signers = c.in_ok-signers.ensures (certificate_read x) c.requires.at (ap Some (sym x.issuer_is)) in
    let holding = rw (c.deref.ensures.value, c.in_ok-linking.ensures.items, c.in_ok-linking.ensures.certificate, c.in_ok-linking.ensures.policy) at c.in_ok-holding.ensures in
    gathered_as q.found.now.items.now (Contains c.in_ok-holding.holding.items) (MayHoldBack r (items_in q) (reach_by c.args.searched.now.answer.now) x) c.in_ok-under.under
    (λ w. (
      λ at. ((holding.exact w).0 at).1,
      λ h. (holding.exact w).1 ((signers.exact w).1 (signed_less r.Vouches (g.V.Vouch.vouches_for q.vouch.now).Vouches (items_in q) (certificate_item x) w c.requires.less (issued_signed r (items_in q) x w h.1)), h),
    ))
    (rw c.deref-2.ensures.value at c.in_ok-under.ensures)
