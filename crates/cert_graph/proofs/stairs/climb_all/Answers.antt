-- One group more.
use Rattle.std.proofs.Common.{◌≡◌, ◌∙◌, ◌<◌, ◌≤◌, List, length, get_or, ap, arith, subst, inl}
use Rattle.std.proofs.lemmas.List.{length-set}
use Rattle.cert_graph.specs.declared.nodes.Group.{Group}
use Rattle.cert_graph.specs.Nodes.{graph_of}
use Rattle.cert_graph.proofs.Flights.{flights_in, none_on, all_on, vector_on}
use Rattle.cert_graph.proofs.stairs.climb_all.Goals as goal

pub loop-place-init : goal.loop-place-init
loop-place-init c = record {
  count = c.requires;
  each = λ rows number h. none_on (graph_of c.args.nodes.now) rows c.args.row.now c.args.nodes.now.groups.items (flights_in c.args.flights.now.items) h;
}

pub loop-place-preserved : goal.loop-place-preserved
loop-place-preserved c =
    let groups = c.args.nodes.now.groups.items in
    let i = c.loop-place.place in
    let vectors = c.loop-place.flights.items in
    let e = c.deref-group-items.ensures.value in
    let within : i < length groups = subst (λ (gs : List Group). i < length gs) e c.loop-place-test.true in
    let is : c.group-item.result ≡ get_or groups i c.group-item.result = subst (λ (gs : List Group). c.group-item.result ≡ get_or gs i c.group-item.result) e c.group-item.is in
    let count : length vectors ≡ length groups = c.loop-place.invariant.count in
    let inside : i < length vectors = omega arith in record {
      count = length-set vectors i c.climb.new.flights ∙ count;
      each = λ rows number h. vector_on (graph_of c.args.nodes.now) rows c.args.row.now i groups c.group-item.result vectors c.index_mut.result.now c.climb.new.flights within is inside c.index_mut.ensures.value
          (λ x. (c.in_ok-climb.ensures rows number (inl x)).0) (c.loop-place.invariant.each rows number h);
    }

pub returns : goal.returns
returns c = λ rows number h.
    let long = ap length c.deref-group-items.ensures.value in
    let past : length c.args.nodes.now.groups.items ≤ c.loop-place.place = omega arith in
    all_on (graph_of c.args.nodes.now) rows c.args.row.now c.loop-place.place c.args.nodes.now.groups.items (flights_in c.loop-place.flights.items) past (c.loop-place.invariant.each rows number h)
