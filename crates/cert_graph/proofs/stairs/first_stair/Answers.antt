-- The stairs are halved until the two places meet: none before them takes the count.
use Rattle.std.proofs.Common.{◌≡◌, ℕ, ◌≤◌, get_or, arith, subst}
use Rattle.cert_graph.specs.declared.reach.Reach.TheVariants.{No}
use Rattle.cert_graph.specs.declared.stairs.Stair.{Stair}
use Rattle.cert_graph.specs.Nodes.{graph_of}
use Rattle.cert_graph.specs.Reach.{Takes}
use Rattle.cert_graph.proofs.Climbing.{first_is_least, none_below, none_taking}
use Rattle.cert_graph.proofs.stairs.first_stair.Goals as goal

pub returns-then-low-stairs : goal.returns-then-low-stairs
returns-then-low-stairs c = λ nodes row members h.
    let g = graph_of nodes in
    let stairs = c.args.stairs.now in
    let d : Stair = record { position = 0; reach = No } in
    let order = c.loop-low.invariant.order in
    let small = c.loop-low.invariant.small in
    let meet : c.loop-low.high ≤ c.loop-low.low = c.loop-low-test.false in
    let e : c.loop-low.high ≡ c.loop-low.low = omega arith in
    let inside = c.if-low-stairs.true in
    let takes = subst (λ (k : ℕ). Takes (get_or stairs k d).reach c.args.count) e (c.loop-low.invariant.there d (omega arith)) in
    first_is_least g row members stairs c.loop-low.low c.args.count d h inside takes
    (none_below g row members stairs c.loop-low.low c.args.count d h (omega arith) (c.loop-low.invariant.before d))

pub returns-else-low-stairs : goal.returns-else-low-stairs
returns-else-low-stairs c = λ nodes row members h.
    let g = graph_of nodes in
    let stairs = c.args.stairs.now in
    let d : Stair = record { position = 0; reach = No } in
    let order = c.loop-low.invariant.order in
    let small = c.loop-low.invariant.small in
    none_taking g row members stairs c.loop-low.low c.args.count d h c.if-low-stairs.false
    (none_below g row members stairs c.loop-low.low c.args.count d h (omega arith) (c.loop-low.invariant.before d))
