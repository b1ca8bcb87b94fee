use Rattle.std.proofs.Common.{refl, arith}
use Rattle.certpath_why.proofs.Spacing.{over_none, over_more, over_all}
use Rattle.certpath_why.proofs.cuts.ranges_but.Goals as goal

pub loop-place-init : goal.loop-place-init
loop-place-init c = over_none c.args.all.now c.args.left_out.now _ c.requires.all c.new.ensures refl refl

pub loop-place-preserved : goal.loop-place-preserved
loop-place-preserved c =
    let h = c.loop-place.invariant in
    over_more c.args.all.now c.args.left_out.now c.loop-place.place-index c.loop-place.walk _ c.requires.left_out c.loop-place-test.true h (c.in_ok-take_out.ensures h.done h.cut h.spaced (λ w i. h.below w c.loop-place.place-index i (omega arith) c.loop-place-test.true))

pub returns : goal.returns
returns c =
    let h = c.loop-place.invariant in
    over_all c.args.all.now c.args.left_out.now c.loop-place.place-index c.loop-place.walk _ c.loop-place-test.false h (c.in_ok-extend.ensures _ (c.in_ok-push.ensures h.done h.cut))
