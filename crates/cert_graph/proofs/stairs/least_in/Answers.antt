-- The flights are halved until the two places meet: before them is the last that begins at or
-- before the row.
use Rattle.std.proofs.Common.{◌≡◌, ℕ, ◌+◌, ◌-◌, ◌/◌, ◌<◌, ◌≤◌, List, length, get_or, arith, sym, subst, inl, inr}
use Rattle.std.proofs.lemmas.Bool.{cases_lt}
use Rattle.std.proofs.lemmas.List.{get_or_default}
use Rattle.cert_graph.specs.Adequate.{row_of}
use Rattle.cert_graph.specs.Nodes.{graph_of}
use Rattle.cert_graph.specs.declared.stairs.Stair.{Stair}
use Rattle.cert_graph.specs.declared.stairs.Flight.{Flight}
use Rattle.cert_graph.specs.Stairs.{AreStairs}
use Rattle.cert_graph.proofs.PlacesOfNodes.{element_at}
use Rattle.cert_graph.proofs.Climbing.{flight_found}
use Rattle.cert_graph.proofs.stairs.least_in.Goals as goal

pub loop-low-preserved : goal.loop-low-preserved
loop-low-preserved c =
    let flights = c.args.flights.now in
    let low = c.loop-low.low in
    let some = c.loop-low-test.true in
    let small = c.loop-low.invariant.small in
    let m = low + (c.loop-low.high - low) / 2 in
    let below : m < c.loop-low.high = omega arith in
    let inside : m < length flights = omega arith in
    let f = c.index-flights-middle.result in
    let begins : c.args.row < (get_or flights m f).row = c.if-flights-middle.false in
    record {
      order = omega arith;
      small = omega arith;
      begins = c.loop-low.invariant.begins;
      later = λ ascend j d after within. elim (cases_lt m j) [
        | inl above ↦
            let rises = ascend m j d above within in
            let here : c.args.row < (get_or flights m d).row = subst (λ (y : Flight). c.args.row < y.row) (get_or_default flights m f d inside) begins in
            omega arith
        | inr other ↦
            let same : m ≡ j = omega arith in
            subst (λ (k : ℕ). c.args.row < (get_or flights k d).row) same (subst (λ (y : Flight). c.args.row < y.row) (get_or_default flights m f d inside) begins)
      ];
    }

pub returns-then-low-eq0 : goal.returns-then-low-eq0
returns-then-low-eq0 c = λ nodes rows members h within n o.
    let flights = c.args.flights.now in
    let none : c.loop-low.low ≡ 0 = c.if-low-eq0.true in
    let meet : c.loop-low.high ≤ c.loop-low.low = c.loop-low-test.false in
    let x = h.covers c.args.row within in
    let there = x.1.0 in
    let d = (element_at flights x.0 there).0 in
    let begins = (x.1.1 d).0 in
    let first : c.loop-low.high ≤ x.0 = omega arith in
    let past = c.loop-low.invariant.later h.ascend x.0 d first there in
    absurd (omega arith)

pub returns : goal.returns
returns c = λ nodes rows members h within.
    let g = graph_of nodes in
    let flights = c.args.flights.now in
    let other : c.loop-low.low ≡ 0 → ⊥ = c.if-low-eq0.false in
    let meet : c.loop-low.high ≤ c.loop-low.low = c.loop-low-test.false in
    let order = c.loop-low.invariant.order in
    let small = c.loop-low.invariant.small in
    let m = c.loop-low.low - 1 in
    let f = c.index-flights-low.result in
    let some : 0 < c.loop-low.low = omega arith in
    let inside : m < length flights = omega arith in
    let stairs : AreStairs g (row_of rows c.args.row) members f.stairs.items =
    subst (λ (x : Flight). AreStairs g (row_of rows c.args.row) members x.stairs.items) (sym c.index-flights-low.is)
    (flight_found g rows members flights m c.args.row f h within inside (c.loop-low.invariant.begins f some)
    (λ j later there. let first : c.loop-low.high ≤ j = omega arith in c.loop-low.invariant.later h.ascend j f first there)) in
    c.first_stair.ensures nodes (row_of rows c.args.row) members
    (subst (λ (xs : List Stair). AreStairs g (row_of rows c.args.row) members xs) (sym c.deref.ensures.value) (subst (λ (x : Flight). AreStairs g (row_of rows c.args.row) members x.stairs.items) c.index-flights-low.is stairs))
