-- One change more.
use Rattle.std.proofs.Common.{◌≡◌, ℕ, ◌+◌, ◌≤◌, [], ◌++◌, ◌∙◌, List, length, get_or, map, take, Vec, Global, ap, sym, arith, subst}
use Rattle.std.proofs.lemmas.List.{length-map, get_or-map, get_or_past, take_all, append-nil}
use Rattle.cert_graph.specs.declared.reach.Reach.TheVariants.{No}
use Rattle.cert_graph.specs.declared.changes.Change.{Change}
use Rattle.cert_graph.specs.declared.stairs.Flight.{Flight}
use Rattle.cert_graph.specs.Changes.{touched}
use Rattle.cert_graph.specs.Nodes.{graph_of}
use Rattle.cert_graph.specs.Stairs.{AreClimbing}
use Rattle.cert_graph.proofs.Flights.{flights_in}
use Rattle.cert_graph.proofs.Touching.{none_climbed, touched_more}
use Rattle.cert_graph.proofs.stairs.climb_some.Goals as goal
use Rattle.cert_graph.proofs.stairs.climb_some.Goals.{then-change-places+in_ok-climb_at, else-change-places}

pub loop-change-init : goal.loop-change-init
loop-change-init c = record {
  count = c.requires.count;
  each = λ rows number h. none_climbed (graph_of c.args.nodes.now) rows c.args.row.now c.args.nodes.now.groups.items (flights_in c.args.flights.now.items) h;
}

pub loop-change-preserved : goal.loop-change-preserved
loop-change-preserved c =
    let d : Change = record { position = 0; reach = No } in
    let g = graph_of c.args.nodes.now in
    let groups = c.args.nodes.now.groups.items in
    let step = c.args.step.now in
    let i = c.loop-change.change-index in
    let x = get_or step i d in
    let lists = map (λ (l : Vec ℕ Global). l.items) c.args.places.now in
    let size = length-map c.args.places.now (λ (l : Vec ℕ Global). l.items) in
    elim c.if-change-places.branch [
      | then-change-places+in_ok-climb_at w ↦
          let list : w.deref.result.now ≡ get_or lists x.position [] =
          w.deref.ensures.value ∙ ap (λ (l : Vec ℕ Global). l.items) w.index-places-change.is ∙ sym (get_or-map (λ (l : Vec ℕ Global). l.items) c.args.places.now x.position w.index-places-change.result [] w.if-change-places.true) in
          record {
            count = ap (λ (v : Vec (Vec Flight Global) Global). length v.items) w.flights-is ∙ w.in_ok-climb_at.ensures.count;
            each = λ rows number h.
                subst (λ (v : Vec (Vec Flight Global) Global). AreClimbing g rows c.args.row.now (touched lists (take (i + 1) step)) groups (flights_in v.items)) (sym w.flights-is)
                (subst (λ (ds : List ℕ). AreClimbing g rows c.args.row.now ds groups (flights_in w.climb_at.new.flights.items))
                (ap (λ (vs : List ℕ). touched lists (take i step) ++ vs) list ∙ sym (touched_more lists step i d c.loop-change-test.true))
                (w.in_ok-climb_at.ensures.climbed rows (touched lists (take i step)) number (c.loop-change.invariant.each rows number h)));
          }
      | else-change-places w ↦
          let past : length lists ≤ x.position = omega (arith, size, w.if-change-places.false) in
          record {
            count = ap (λ (v : Vec (Vec Flight Global) Global). length v.items) w.flights-is ∙ c.loop-change.invariant.count;
            each = λ rows number h.
                subst (λ (v : Vec (Vec Flight Global) Global). AreClimbing g rows c.args.row.now (touched lists (take (i + 1) step)) groups (flights_in v.items)) (sym w.flights-is)
                (subst (λ (ds : List ℕ). AreClimbing g rows c.args.row.now ds groups (flights_in c.loop-change.flights.items))
                (sym (touched_more lists step i d c.loop-change-test.true ∙ ap (λ (vs : List ℕ). touched lists (take i step) ++ vs) (get_or_past lists x.position [] past) ∙ append-nil (touched lists (take i step))))
                (c.loop-change.invariant.each rows number h));
          }
    ]

pub returns : goal.returns
returns c = λ rows number h.
    subst (λ (xs : List Change). AreClimbing (graph_of c.args.nodes.now) rows c.args.row.now (touched (map (λ (l : Vec ℕ Global). l.items) c.args.places.now) xs) c.args.nodes.now.groups.items (flights_in c.loop-change.flights.items))
    (take_all c.loop-change.change-index c.args.step.now c.loop-change-test.false) (c.loop-change.invariant.each rows number h)
