use Rattle.certpath_why.proofs.Ranging.{one_more, all_of, none}
use Rattle.certpath_why.proofs.ranges.ranges_of.Goals as goal

pub loop-place-init : goal.loop-place-init
loop-place-init c = rw c.new-ranges.ensures.items none

pub loop-place-preserved : goal.loop-place-preserved
loop-place-preserved c = one_more c.args.places.now c.loop-place.place-index c.loop-place.ranges.items _ c.requires c.loop-place-test.true c.loop-place.invariant c.in_ok-add_place.ensures

pub returns : goal.returns
returns c = all_of c.args.places.now c.loop-place.place-index c.loop-place.ranges.items c.loop-place-test.false c.loop-place.invariant
