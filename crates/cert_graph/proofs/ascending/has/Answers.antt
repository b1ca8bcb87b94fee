-- The list is halved until the two places meet.
use Rattle.std.proofs.Common.{◌+◌, ◌-◌, ◌/◌, ◌≤◌, arith}
use Rattle.cert_graph.proofs.Halving.{between_all, between_up, between_down, between_found}
use Rattle.cert_graph.proofs.TableFacts.{refuted}
use Rattle.cert_graph.proofs.ascending.has.Goals as goal

pub loop-low-init : goal.loop-low-init
loop-low-init c = between_all c.args.ascending.now c.args.number

pub bounds-ascending-middle : goal.bounds-ascending-middle
bounds-ascending-middle c =
    let some = c.loop-low-test.true in
    let small = c.loop-low.invariant.small in
    omega arith

pub loop-low-preserved-then-ascending-middle : goal.loop-low-preserved-then-ascending-middle
loop-low-preserved-then-ascending-middle c =
    let some = c.loop-low-test.true in
    between_up c.args.ascending.now c.args.number c.loop-low.low c.loop-low.high (c.loop-low.low + (c.loop-low.high - c.loop-low.low) / 2) c.requires c.loop-low.invariant (omega arith) c.if-ascending-middle.true

pub loop-low-preserved : goal.loop-low-preserved
loop-low-preserved c =
    let some = c.loop-low-test.true in
    between_down c.args.ascending.now c.args.number c.loop-low.low c.loop-low.high (c.loop-low.low + (c.loop-low.high - c.loop-low.low) / 2) c.requires c.loop-low.invariant (omega arith) (omega arith) c.if-ascending-middle.false

pub returns-then-ascending-low : goal.returns-then-ascending-low
returns-then-ascending-low c =
    let meet : c.loop-low.high ≤ c.loop-low.low = c.loop-low-test.false in
    let other = c.if-ascending-low.true in
    refuted (λ x. let same = (between_found c.args.ascending.now c.args.number c.loop-low.low c.loop-low.high c.requires c.loop-low.invariant meet x).1 in absurd (omega arith))
