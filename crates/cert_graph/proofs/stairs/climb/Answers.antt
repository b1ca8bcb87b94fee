-- The last flight begins in the row already, or has its stairs, or a further one.
use Rattle.std.proofs.Common.{◌≡◌, ◌<◌, [], ◌∷◌, ◌++◌, List, get_or, length, ◌-◌, sym, ◌∙◌, subst, inl}
use Rattle.cert_graph.specs.declared.stairs.Flight.{Flight}
use Rattle.cert_graph.specs.declared.stairs.Stair.{Stair}
use Rattle.cert_graph.specs.Nodes.{graph_of}
use Rattle.cert_graph.specs.Stairs.{AreStairs, AreFlightsSoFar, MayClimb}
use Rattle.cert_graph.proofs.Flights.{flight_kept}
use Rattle.cert_graph.proofs.Touching.{begun, not_begun, pushed_onto}
use Rattle.cert_graph.proofs.stairs.climb.Goals as goal

pub returns-then-begins_in : goal.returns-then-begins_in
returns-then-begins_in c = λ rows number h.
    let g = graph_of c.args.nodes.now in
    let last = subst (λ (fs : List Flight). (0 < length fs) × ((d : Flight) → (get_or fs (length fs - 1) d).row ≡ c.args.number)) c.deref.ensures.value (c.begins_in.ensures.0 c.if-begins_in.true) in
    begun g rows c.args.row.now c.args.group.now.members.items c.args.flights.now.items c.args.number number last h

pub returns-then-ends_in : goal.returns-then-ends_in
returns-then-ends_in c = λ rows number h.
    let g = graph_of c.args.nodes.now in
    let members = c.args.group.now.members.items in
    let flights = c.args.flights.now.items in
    let so_far = not_begun g rows c.args.row.now members flights c.args.number number
    (λ b. cc (c.if-begins_in.false, c.begins_in.ensures.1 (subst (λ (fs : List Flight). (0 < length fs) × ((d : Flight) → (get_or fs (length fs - 1) d).row ≡ c.args.number)) (sym c.deref.ensures.value) b))) h in
    let last = subst (λ (fs : List Flight). (0 < length fs) × ((d : Flight) → (get_or fs (length fs - 1) d).stairs.items ≡ c.deref-3.result.now)) c.deref-2.ensures.value (c.ends_in.ensures.0 c.if-ends_in.true) in (
      flight_kept g rows c.args.row.now members flights last.0
          (λ d. subst (λ (xs : List Stair). AreStairs g c.args.row.now members xs) (sym (last.1 d ∙ c.deref-3.ensures.value)) c.in_ok-stairs.ensures) so_far,
      inl so_far,
    )

pub returns : goal.returns
returns c = λ rows number h.
    let g = graph_of c.args.nodes.now in
    let members = c.args.group.now.members.items in
    let flights = c.args.flights.now.items in
    let so_far = not_begun g rows c.args.row.now members flights c.args.number number
    (λ b. cc (c.if-begins_in.false, c.begins_in.ensures.1 (subst (λ (fs : List Flight). (0 < length fs) × ((d : Flight) → (get_or fs (length fs - 1) d).row ≡ c.args.number)) (sym c.deref.ensures.value) b))) h in
    subst (λ (fs : List Flight). AreFlightsSoFar g (rows ++ c.args.row.now ∷ []) members fs × MayClimb g rows c.args.row.now members fs) (sym c.in_ok-push.ensures.items)
    (pushed_onto g rows c.args.row.now members flights (record { row = c.args.number; stairs = c.in_ok-stairs.stairs }) (sym number) c.in_ok-stairs.ensures so_far)
