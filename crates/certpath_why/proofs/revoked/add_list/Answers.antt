use Rattle.std.specs.Prelude.{◌↔◌, ◌⊎◌}
use Rattle.std.proofs.Common.{◌≡◌, ◌∙◌, sym, subst, ℕ, Some, inl, inr}
use Rattle.std.specs.List.{Contains}
use Rattle.cert_reasons.specs.declared.links.Unlinked.TheVariants.{RevokedBy}
use Rattle.certpath_why.specs.Against.{IsLineOf}
use Rattle.certpath_why.specs.Revoked.{IsHeldIn, Signs}
use Rattle.certpath_why.specs.Sides.{others_of}
use Rattle.certpath_why.proofs.Cutting.{cut_as}
use Rattle.certpath_why.proofs.Revokers.{held_iff, item_there, signs_item, met_more}
use Rattle.certpath_why.proofs.Tailing.{cut_tails, no_group, no_tail}
use Rattle.certpath_why.proofs.revoked.add_list.Goals as goal

pub signers_number-number-requires-clause-place : goal.signers_number-number-requires-clause-place
signers_number-number-requires-clause-place g c = c.requires.issuer.0

pub returns-then-contains-clause-places : goal.returns-then-contains-clause-places
returns-then-contains-clause-places g c =
    let has = subst (IsHeldIn c.args.met.now.numbers) c.signers_number-number.ensures (sym c.contains.ensures ∙ c.if-contains.true) in
    λ w. (λ h. inl h, λ s. elim s [ inl o ↦ o | inr y ↦ c.requires.met c.args.list w c.requires.issuer has y ])

pub returns-then-contains-clause-tails : goal.returns-then-contains-clause-tails
returns-then-contains-clause-tails g c =
    let q = c.args.question.now in
    let side = c.args.side.now in
    let V = (g.V.Vouch.vouches_for q.vouch.now).Vouches in
    let xs = q.found.now.items.now in
    let others = others_of side in
    let p = c.args.list in
    let has = subst (IsHeldIn c.args.met.now.numbers) c.signers_number-number.ensures (sym c.contains.ensures ∙ c.if-contains.true) in
    let Q : ℕ → Type 0 = λ w. Signs V xs others p w × (IsHeldIn c.args.met.now.places w → ⊥) in
    no_tail (λ front. IsLineOf front (Some (RevokedBy p)) Q) c.args.tails.now.items (λ front. no_group front (Some (RevokedBy p)) Q (λ w y. y.1 (c.requires.met p w c.requires.issuer has y.0)))

pub signers_at-requires-clause-place : goal.signers_at-requires-clause-place
signers_at-requires-clause-place g c = c.requires.issuer.0

pub add_places-requires : goal.add_places-requires
add_places-requires g c =
    let q = c.args.question.now in
    let z = item_there q.found.now.items.now c.args.side.now.name.now c.args.list c.requires.issuer in
    rw c.deref.ensures.value (c.in_ok-signers.ensures z.0 z.1 z.2).ascends

pub cut_of-requires : goal.cut_of-requires
cut_of-requires g c = rw c.deref-2.ensures.value c.in_ok-new.ensures.new.ascends

pub returns-clause-met : goal.returns-clause-met
returns-clause-met g c =
    let q = c.args.question.now in
    let side = c.args.side.now in
    let V = (g.V.Vouch.vouches_for q.vouch.now).Vouches in
    let xs = q.found.now.items.now in
    let others = others_of side in
    let p = c.args.list in
    let z = item_there xs side.name.now p c.requires.issuer in
    let signers = c.in_ok-signers.ensures z.0 z.1 z.2 in
    let all = rw c.deref.ensures.value at c.in_ok-new.ensures.all in
    let number = c.signers_number-number.ensures in
    met_more V xs side.others.now q.signers.now.classes side.firsts.now c.requires.side.firsts side.name.now c.args.met.now (record { numbers = c.insert.new.self; places = c.add_places.new.met }) p c.requires.issuer c.requires.met
    (λ n. subst (λ (m : ℕ). IsHeldIn c.insert.new.self n ↔ (IsHeldIn c.args.met.now.numbers n ⊎ (m ≡ n))) number (held_iff c.args.met.now.numbers c.insert.new.self c.signers_number-number.result (λ k. c.in_ok-insert.ensures.updates.0 k) n))
    (λ w.
    let iff = signs_item V xs others p z.0 w z.1 in (
      λ h. elim ((all w).0 h) [ inl o ↦ inl o | inr s ↦ inr (iff.0 ((signers.exact w).0 s)) ],
      λ s. (all w).1 (elim s [ inl o ↦ inl o | inr y ↦ inr ((signers.exact w).1 (iff.1 y)) ]),
    ))

pub returns-clause-places : goal.returns-clause-places
returns-clause-places g c =
    let q = c.args.question.now in
    let side = c.args.side.now in
    let V = (g.V.Vouch.vouches_for q.vouch.now).Vouches in
    let xs = q.found.now.items.now in
    let others = others_of side in
    let p = c.args.list in
    let z = item_there xs side.name.now p c.requires.issuer in
    let signers = c.in_ok-signers.ensures z.0 z.1 z.2 in
    let all = rw c.deref.ensures.value at c.in_ok-new.ensures.all in
    λ w.
    let iff = signs_item V xs others p z.0 w z.1 in (
      λ h. elim ((all w).0 h) [ inl o ↦ inl o | inr s ↦ inr (iff.0 ((signers.exact w).0 s)) ],
      λ s. (all w).1 (elim s [ inl o ↦ inl o | inr y ↦ inr ((signers.exact w).1 (iff.1 y)) ]),
    )

pub returns-clause-tails : goal.returns-clause-tails
returns-clause-tails g c =
    let q = c.args.question.now in
    let side = c.args.side.now in
    let V = (g.V.Vouch.vouches_for q.vouch.now).Vouches in
    let xs = q.found.now.items.now in
    let others = others_of side in
    let p = c.args.list in
    let z = item_there xs side.name.now p c.requires.issuer in
    let signers = c.in_ok-signers.ensures z.0 z.1 z.2 in
    let new = rw c.deref.ensures.value at c.in_ok-new.ensures.new in
    let Q : ℕ → Type 0 = λ w. Signs V xs others p w × (IsHeldIn c.args.met.now.places w → ⊥) in
    let cut = cut_as (Contains c.in_ok-new.new.items) Q c.in_ok-cut.cut
    (λ w.
    let iff = signs_item V xs others p z.0 w z.1 in (
      λ h. let y = (new.exact w).0 h in (iff.0 ((signers.exact w).0 y.0), y.1),
      λ y. (new.exact w).1 ((signers.exact w).1 (iff.1 y.0), y.1),
    )) (rw c.deref-2.ensures.value at c.in_ok-cut.ensures) in
    cut_tails (Some (RevokedBy p)) Q c.in_ok-cut.cut _ _ cut c.in_ok-add_cut.ensures
