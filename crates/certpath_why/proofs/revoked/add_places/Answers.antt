use Rattle.std.proofs.Common.{◌≡◌, ◌+◌, ℕ, length, get_or, arith, sym, subst, inl, inr}
use Rattle.cert_graph.proofs.Sifted.{sifted_none, sifted_more, sifted_same, sifted_whole, nothing_added}
use Rattle.certpath_why.specs.Revoked.{IsHeldIn}
use Rattle.certpath_why.proofs.Ranging.{sorted_below}
use Rattle.certpath_why.proofs.Revokers.{added_none, added_more, added_all, was_held, was_new}
use Rattle.certpath_why.proofs.revoked.add_places.Goals as goal

pub loop-place-init : goal.loop-place-init
loop-place-init c = (rw c.new-new.ensures.items (sifted_none 0 (λ w. IsHeldIn c.args.met.now w → ⊥) c.args.places.now), added_none c.args.places.now c.args.met.now)

pub loop-place-preserved-then-not-is_new : goal.loop-place-preserved-then-not-is_new
loop-place-preserved-then-not-is_new c =
    let B : ℕ → Type 0 = λ w. IsHeldIn c.args.met.now w → ⊥ in
    let places = c.args.places.now in
    let k = c.loop-place.place-index in
    let p = get_or places k 0 in
    let added = c.loop-place.invariant.1 in (
      sifted_same 0 B places k c.loop-place.new.items c.loop-place.invariant.0 (λ v at b.
          elim ((added.exact p).0 (was_held _ _ c.in_ok-is_new.ensures.added c.if-not-is_new.true)) [
            | inl old ↦ subst B (sym (nothing_added p v at)) b old
            | inr met ↦ let less = sorted_below places k c.requires c.loop-place-test.true p met in omega arith
          ]),
      added_more places k c.args.met.now c.loop-place.met c.insert.new.self c.loop-place-test.true added (λ q. c.in_ok-is_new.ensures.updates.0 q),
    )

pub loop-place-preserved : goal.loop-place-preserved
loop-place-preserved c =
    let B : ℕ → Type 0 = λ w. IsHeldIn c.args.met.now w → ⊥ in
    let places = c.args.places.now in
    let k = c.loop-place.place-index in
    let p = get_or places k 0 in
    let at : p ≡ 0 + p = omega arith in
    let added = c.loop-place.invariant.1 in (
      rw c.in_ok-push.ensures.items (sifted_more 0 B places k c.loop-place.new.items p c.requires c.loop-place-test.true c.loop-place.invariant.0 at
          (λ old. was_new _ _ c.in_ok-is_new.ensures.added c.if-not-is_new.false ((added.exact p).1 (inl old)))),
      added_more places k c.args.met.now c.loop-place.met c.insert.new.self c.loop-place-test.true added (λ q. c.in_ok-is_new.ensures.updates.0 q),
    )

pub returns-clause-new : goal.returns-clause-new
returns-clause-new c =
    let end : c.loop-place.place-index ≡ length c.args.places.now = omega arith in
    let sifted = c.loop-place.invariant.0 in
    record { ascends = sifted.ascends; exact = sifted_whole (λ w. IsHeldIn c.args.met.now w → ⊥) c.args.places.now c.loop-place.place-index c.loop-place.new.items end sifted }

pub returns-clause-all : goal.returns-clause-all
returns-clause-all c = added_all c.args.places.now c.loop-place.place-index c.args.met.now c.loop-place.met c.loop-place-test.false c.loop-place.invariant.1
