-- One group more.
use Rattle.std.proofs.Common.{◌≡◌, ℕ, ◌<◌, ◌∷◌, [], ◌++◌, ◌∙◌, List, length, get_or, set, take, ap, sym, arith, subst, append_assoc}
use Rattle.std.proofs.lemmas.List.{length-set, take_more, take_all, append-nil}
use Rattle.cert_graph.specs.Nodes.{graph_of}
use Rattle.cert_graph.specs.Stairs.{AreClimbing}
use Rattle.cert_graph.proofs.Flights.{flights_in}
use Rattle.cert_graph.proofs.Touching.{vector_climbed}
use Rattle.cert_graph.proofs.stairs.climb_at.Goals as goal

pub loop-place-init : goal.loop-place-init
loop-place-init c = record {
  count = c.requires.count;
  each = λ rows done number h. subst (λ (ds : List ℕ). AreClimbing (graph_of c.args.nodes.now) rows c.args.row.now ds c.args.nodes.now.groups.items (flights_in c.args.flights.now.items)) (sym (append-nil done)) h;
}

pub loop-place-preserved : goal.loop-place-preserved
loop-place-preserved c =
    let groups = c.args.nodes.now.groups.items in
    let places = c.args.places.now in
    let i = c.loop-place.place-index in
    let k = get_or places i 0 in
    let vectors = c.loop-place.flights.items in
    let within : k < length groups = c.requires.within i 0 c.loop-place-test.true in
    let count : length vectors ≡ length groups = c.loop-place.invariant.count in
    let inside : k < length vectors = omega (arith, count, within) in record {
      count = length-set vectors k c.climb.new.flights ∙ count;
      each = λ rows done number h.
          subst (λ (ds : List ℕ). AreClimbing (graph_of c.args.nodes.now) rows c.args.row.now ds groups (flights_in (set vectors k c.climb.new.flights)))
          (append_assoc done (take i places) (k ∷ []) ∙ ap (λ (ds : List ℕ). done ++ ds) (sym (take_more places i 0 c.loop-place-test.true)))
          (vector_climbed (graph_of c.args.nodes.now) rows c.args.row.now (done ++ take i places) k groups c.index.result.now vectors c.index_mut.result.now c.climb.new.flights within c.index.ensures inside c.index_mut.ensures.value
          (c.in_ok-climb.ensures rows number) (c.loop-place.invariant.each rows done number h));
    }

pub returns-clause-count : goal.returns-clause-count
returns-clause-count c = c.loop-place.invariant.count

pub returns-clause-climbed : goal.returns-clause-climbed
returns-clause-climbed c = λ rows done number h.
    subst (λ (ds : List ℕ). AreClimbing (graph_of c.args.nodes.now) rows c.args.row.now (done ++ ds) c.args.nodes.now.groups.items (flights_in c.loop-place.flights.items))
    (take_all c.loop-place.place-index c.args.places.now c.loop-place-test.false) (c.loop-place.invariant.each rows done number h)
