use Rattle.std.proofs.Common.{◌≡◌, ◌+◌, length, get_or, arith, sym, subst}
use Rattle.cert_graph.proofs.Sifted.{sifted_none, sifted_more, sifted_same, sifted_whole, nothing_added}
use Rattle.cert_judge.proofs.Mapped.{not_both}
use Rattle.certpath_why.specs.Named.{HasId}
use Rattle.certpath_why.proofs.named.keyed_among.Goals as goal

pub loop-place-init : goal.loop-place-init
loop-place-init c = rw c.new-found.ensures.items (sifted_none 0 (HasId c.args.items.now) c.args.places.now)

pub loop-place-preserved-then-not-has_id : goal.loop-place-preserved-then-not-has_id
loop-place-preserved-then-not-has_id c =
    let H = HasId c.args.items.now in
    let p = get_or c.args.places.now c.loop-place.place-index 0 in
    sifted_same 0 H c.args.places.now c.loop-place.place-index c.loop-place.found.items c.loop-place.invariant
    (λ v at d. not_both _ (c.has_id.ensures.1 (subst H (sym (nothing_added p v at)) d)) c.if-not-has_id.true)

pub loop-place-preserved : goal.loop-place-preserved
loop-place-preserved c =
    let H = HasId c.args.items.now in
    let p = get_or c.args.places.now c.loop-place.place-index 0 in
    let at : p ≡ 0 + p = omega arith in
    rw c.in_ok-push.ensures.items (sifted_more 0 H c.args.places.now c.loop-place.place-index c.loop-place.found.items p c.requires c.loop-place-test.true c.loop-place.invariant at (c.has_id.ensures.0 c.if-not-has_id.false))

pub returns : goal.returns
returns c =
    let end : c.loop-place.place-index ≡ length c.args.places.now = omega arith in
    record { ascends = c.loop-place.invariant.ascends; exact = sifted_whole (HasId c.args.items.now) c.args.places.now c.loop-place.place-index c.loop-place.found.items end c.loop-place.invariant }
