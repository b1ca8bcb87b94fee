use Rattle.cert_judge.proofs.Mapped.{not_both}
use Rattle.certpath_why.proofs.Spreading.{marked_none, marked_same, marked_more, marked_all}
use Rattle.certpath_why.proofs.marks.marked_but.Goals as goal

pub loop-place-init : goal.loop-place-init
loop-place-init c = rw c.new-places.ensures.items (marked_none _ c.args.left)

pub loop-place-preserved-then-not-is_marked_but : goal.loop-place-preserved-then-not-is_marked_but
loop-place-preserved-then-not-is_marked_but c = marked_same c.args.marks.now c.args.left c.loop-place.place c.loop-place.places.items c.loop-place.invariant (λ x. not_both _ (c.is_marked_but.ensures.1 x) c.if-not-is_marked_but.true)

pub loop-place-preserved : goal.loop-place-preserved
loop-place-preserved c = rw c.in_ok-push.ensures.items (marked_more c.args.marks.now c.args.left c.loop-place.place c.loop-place.places.items c.loop-place.invariant (c.is_marked_but.ensures.0 c.if-not-is_marked_but.false))

pub returns : goal.returns
returns c = marked_all c.args.marks.now c.args.left c.loop-place.place c.loop-place.places.items c.loop-place-test.false c.loop-place.invariant
