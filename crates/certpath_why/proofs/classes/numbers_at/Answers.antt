use Rattle.std.proofs.Common.{rules, ◌≤◌, length, get_or}
use Rattle.certpath_why.proofs.Classing.{chosen_none, chosen_past, chosen_more, chosen_all, only_none, only_past, only_more, only_all}
use Rattle.certpath_why.proofs.classes.numbers_at.Goals as goal

pub loop-place-init : goal.loop-place-init
loop-place-init c = (rw c.new-found.ensures.items (chosen_none c.args.numbers.now c.args.places.now), rw c.new-found.ensures.items (only_none c.args.numbers.now c.args.places.now))

pub loop-place-preserved-then-at-numbers : goal.loop-place-preserved-then-at-numbers
loop-place-preserved-then-at-numbers c =
    let past : length c.args.numbers.now ≤ get_or c.args.places.now c.loop-place.place-index 0 = search rules in (
      chosen_past c.args.numbers.now c.args.places.now c.loop-place.found.items c.loop-place.place-index c.loop-place-test.true past c.loop-place.invariant.0,
      only_past c.args.numbers.now c.args.places.now c.loop-place.found.items c.loop-place.place-index c.loop-place-test.true c.loop-place.invariant.1,
    )

pub loop-place-preserved : goal.loop-place-preserved
loop-place-preserved c = (
  rw c.in_ok-push.ensures.items (chosen_more c.args.numbers.now c.args.places.now c.loop-place.found.items c.loop-place.place-index c.loop-place-test.true c.loop-place.invariant.0),
  rw c.in_ok-push.ensures.items (only_more c.args.numbers.now c.args.places.now c.loop-place.found.items c.loop-place.place-index c.loop-place-test.true c.if-at-numbers.false c.loop-place.invariant.1),
)

pub returns-clause-all : goal.returns-clause-all
returns-clause-all c = chosen_all c.args.numbers.now c.args.places.now c.loop-place.found.items c.put_in_order.new.positions.items c.loop-place.place-index c.loop-place-test.false c.loop-place.invariant.0 (λ p. (c.in_ok-put_in_order.ensures.kept p).1)

pub returns-clause-only : goal.returns-clause-only
returns-clause-only c = only_all c.args.numbers.now c.args.places.now c.loop-place.found.items c.put_in_order.new.positions.items c.loop-place.place-index c.loop-place-test.false c.loop-place.invariant.1 (λ p. (c.in_ok-put_in_order.ensures.kept p).0)
