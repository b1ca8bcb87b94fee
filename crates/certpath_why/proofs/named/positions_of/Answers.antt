use Rattle.certpath_why.proofs.Naming.{picked_none, picked_more, picked_same, picked_all}
use Rattle.certpath_why.proofs.named.positions_of.Goals as goal

pub loop-number-init : goal.loop-number-init
loop-number-init c = rw c.new-found.ensures.items (picked_none c.args.places.now c.args.numbers.now)

pub loop-number-preserved-then-at-places : goal.loop-number-preserved-then-at-places
loop-number-preserved-then-at-places c = picked_same c.args.places.now c.args.numbers.now c.loop-number.number-index c.loop-number.found.items c.loop-number-test.true c.if-at-places.true c.loop-number.invariant

pub loop-number-preserved : goal.loop-number-preserved
loop-number-preserved c = rw c.in_ok-push.ensures.items (picked_more c.args.places.now c.args.numbers.now c.loop-number.number-index c.loop-number.found.items c.loop-number-test.true c.if-at-places.false c.loop-number.invariant)

pub returns : goal.returns
returns c = record {
  ascends = c.in_ok-put_in_order.ensures.ascend;
  exact = picked_all c.args.places.now c.args.numbers.now c.loop-number.number-index c.loop-number.found.items c.put_in_order.new.positions.items c.loop-number-test.false c.loop-number.invariant c.in_ok-put_in_order.ensures.kept;
}
