use Rattle.std.proofs.Common.{◌≡◌, ◌+◌, ℕ, length, get_or, arith, sym, subst}
use Rattle.cert_graph.proofs.Sifted.{sifted_none, sifted_more, sifted_same, sifted_whole, nothing_added}
use Rattle.cert_judge.proofs.Mapped.{not_both}
use Rattle.certpath_why.specs.Ranges.{IsInRanges}
use Rattle.certpath_why.proofs.sifting.within.Goals as goal

pub loop-place-init : goal.loop-place-init
loop-place-init c = rw c.new-found.ensures.items (sifted_none 0 (λ w. IsInRanges c.args.ranges.now w) c.args.places.now)

pub loop-place-preserved-then-not-is_in : goal.loop-place-preserved-then-not-is_in
loop-place-preserved-then-not-is_in c =
    let B : ℕ → Type 0 = λ w. IsInRanges c.args.ranges.now w in
    let p = get_or c.args.places.now c.loop-place.place-index 0 in
    sifted_same 0 B c.args.places.now c.loop-place.place-index c.loop-place.found.items c.loop-place.invariant
    (λ v at b. not_both _ (c.is_in.ensures.1 (subst B (sym (nothing_added p v at)) b)) c.if-not-is_in.true)

pub loop-place-preserved : goal.loop-place-preserved
loop-place-preserved c =
    let B : ℕ → Type 0 = λ w. IsInRanges c.args.ranges.now w in
    let p = get_or c.args.places.now c.loop-place.place-index 0 in
    let at : p ≡ 0 + p = omega arith in
    rw c.in_ok-push.ensures.items (sifted_more 0 B c.args.places.now c.loop-place.place-index c.loop-place.found.items p c.requires.places c.loop-place-test.true c.loop-place.invariant at (c.is_in.ensures.0 c.if-not-is_in.false))

pub returns : goal.returns
returns c =
    let end : c.loop-place.place-index ≡ length c.args.places.now = omega arith in
    record { ascends = c.loop-place.invariant.ascends; exact = sifted_whole (λ w. IsInRanges c.args.ranges.now w) c.args.places.now c.loop-place.place-index c.loop-place.found.items end c.loop-place.invariant }
