use Rattle.std.proofs.Common.{◌≡◌, ◌+◌, ℕ, length, get_or, arith, sym, subst}
use Rattle.cert_graph.specs.Entries.{IsAt}
use Rattle.cert_graph.proofs.Sifted.{sifted_none, sifted_more, sifted_same, sifted_whole, nothing_added}
use Rattle.cert_judge.specs.Items.{IsListWith}
use Rattle.cert_judge.proofs.Mapped.{not_both}
use Rattle.certpath_why.specs.Used.{IsCurrentAndPlain}
use Rattle.certpath_why.proofs.used.in_force_among.Goals as goal

pub loop-place-init : goal.loop-place-init
loop-place-init c = rw c.new-found.ensures.items (sifted_none 0 (λ p. IsAt c.args.items.now p (IsListWith (IsCurrentAndPlain c.args.moment.now))) c.args.lists.now)

pub loop-place-preserved-then-not-is_in_force_at : goal.loop-place-preserved-then-not-is_in_force_at
loop-place-preserved-then-not-is_in_force_at c =
    let C : ℕ → Type 0 = λ p. IsAt c.args.items.now p (IsListWith (IsCurrentAndPlain c.args.moment.now)) in
    let p = get_or c.args.lists.now c.loop-place.place-index 0 in
    sifted_same 0 C c.args.lists.now c.loop-place.place-index c.loop-place.found.items c.loop-place.invariant
    (λ v at d. not_both _ (c.is_in_force_at.ensures.1 (subst C (sym (nothing_added p v at)) d)) c.if-not-is_in_force_at.true)

pub loop-place-preserved : goal.loop-place-preserved
loop-place-preserved c =
    let C : ℕ → Type 0 = λ p. IsAt c.args.items.now p (IsListWith (IsCurrentAndPlain c.args.moment.now)) in
    let p = get_or c.args.lists.now c.loop-place.place-index 0 in
    let at : p ≡ 0 + p = omega arith in
    rw c.in_ok-push.ensures.items (sifted_more 0 C c.args.lists.now c.loop-place.place-index c.loop-place.found.items p c.requires c.loop-place-test.true c.loop-place.invariant at (c.is_in_force_at.ensures.0 c.if-not-is_in_force_at.false))

pub returns : goal.returns
returns c =
    let end : c.loop-place.place-index ≡ length c.args.lists.now = omega arith in
    record { ascends = c.loop-place.invariant.ascends; exact = sifted_whole (λ p. IsAt c.args.items.now p (IsListWith (IsCurrentAndPlain c.args.moment.now))) c.args.lists.now c.loop-place.place-index c.loop-place.found.items end c.loop-place.invariant }
