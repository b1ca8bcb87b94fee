-- One row more.
use Rattle.std.proofs.Common.{◌≡◌, ◌∙◌, ◌+◌, ◌-◌, ◌<◌, ◌≤◌, sym, ℕ, List, [], ◌∷◌, ◌++◌, length, replicate, take, Vec, Global, ap, arith, subst}
use Rattle.std.proofs.lemmas.List.{length-map, take_all, with_items_is}
use Rattle.std.proofs.lemmas.List.Elements.{All-map}
use Rattle.cert_graph.specs.declared.changes.Change.{Change}
use Rattle.cert_graph.specs.declared.reach.Reach.{Reach}
use Rattle.cert_graph.specs.declared.reach.Reach.TheVariants.{No}
use Rattle.cert_graph.specs.declared.stairs.Flight.{Flight}
use Rattle.cert_graph.specs.Nodes.{graph_of}
use Rattle.cert_graph.specs.Stairs.{AreFlightsSoFar, OfEachGroup}
use Rattle.cert_graph.specs.Adequate.{row_of, changed, rows_by}
use Rattle.cert_graph.proofs.Changing.{items_by, last_more, length-rows_by}
use Rattle.cert_graph.proofs.RowByRow.{last_at}
use Rattle.cert_graph.proofs.Flights.{flights_in, no_rows, rows_next, rows_counted, all_flights}
use Rattle.cert_graph.proofs.stairs.flights_of.Goals as goal

pub loop-number-init : goal.loop-number-init
loop-number-init c =
    let nodes = c.args.nodes.now in
    let groups : c.len.result ≡ length nodes.groups.items = omega arith in
    let items : c.len-2.result ≡ length nodes.items.items = omega arith in
    let vectors = c.in_ok-flights.flights.items in record {
      row = c.in_ok-row.ensures ∙ ap (λ (n : ℕ). replicate n No) items;
      each = no_rows (graph_of nodes) nodes.groups.items (flights_in vectors) (length-map vectors (λ (f : Vec Flight Global). f.items) ∙ c.in_ok-flights.ensures.count ∙ groups)
          (All-map (λ (own : List Flight). own ≡ []) (λ (f : Vec Flight Global). f.items) vectors c.in_ok-flights.ensures.empty);
    }

pub loop-number-preserved : goal.loop-number-preserved
loop-number-preserved c =
    let nodes = c.args.nodes.now in
    let none = replicate (length nodes.items.items) No in
    let steps = c.args.steps.now in
    let i = c.loop-number.number in
    let x = c.index-steps-number.result in
    let size : length c.make.new.row ≡ c.loop-number.row.len = c.make.auto.row ∙ c.deref_mut.ensures.len in
    let e = with_items_is c.loop-number.row c.make.new.row size in
    let made : c.make.new.row ≡ changed c.loop-number.row.items x.items =
    c.make.ensures ∙ ap (λ (r : List Reach). changed r c.deref.result.now) c.deref_mut.ensures.value ∙ ap (λ (xs : List Change). changed c.loop-number.row.items xs) c.deref.ensures.value in
    let here : i < length steps = c.loop-number-test.true in
    let start : i ≤ length steps = omega arith in
    let rows = rows_by none (items_by (take i steps)) in
    let row : c.deref-in-loop-number-2.result.now ≡ c.make.new.row = c.deref-in-loop-number-2.ensures.value ∙ e in
    let before = c.loop-number.row.items in
    let counted = rows_counted none steps i start in
    let last : 0 < length rows → before ≡ row_of rows (length rows - 1) = λ some.
    let size = length-rows_by none (items_by (take i steps)) in
    let ends : length rows - 1 + 1 ≡ length (items_by (take i steps)) = omega (arith, some, size) in
    c.loop-number.invariant.row ∙ last_at none (items_by (take i steps)) (length rows - 1) ends in
    let climbed = c.in_ok-climb_by.ensures rows before counted last (row ∙ made ∙ ap (λ (xs : List Change). changed before xs) (sym c.deref-in-loop-number-3.ensures.value)) c.loop-number.invariant.each in
    record {
      row = e ∙ last_more none steps i x c.loop-number.row.items c.make.new.row here c.index-steps-number.is c.loop-number.invariant.row made;
      each = subst (λ (rs : List (List Reach)). OfEachGroup (AreFlightsSoFar (graph_of nodes) rs) nodes.groups.items (flights_in c.climb_by.new.flights.items))
          (ap (λ (r : List Reach). rows ++ r ∷ []) row ∙ rows_next none steps i x c.loop-number.row.items c.make.new.row here c.index-steps-number.is c.loop-number.invariant.row made) climbed;
    }

pub returns : goal.returns
returns c =
    let nodes = c.args.nodes.now in
    let none = replicate (length nodes.items.items) No in
    let flights = flights_in c.loop-number.flights.items in
    all_flights (graph_of nodes) (rows_by none (items_by c.args.steps.now)) nodes.groups.items flights
    (subst (λ (xs : List (Vec Change Global)). OfEachGroup (AreFlightsSoFar (graph_of nodes) (rows_by none (items_by xs))) nodes.groups.items flights) (take_all c.loop-number.number c.args.steps.now c.loop-number-test.false) c.loop-number.invariant.each)
