use Rattle.std.proofs.Common.{◌≡◌, List, length, map, take}
use Rattle.cert_graph.specs.declared.reach.Reach.{Reach}
use Rattle.cert_graph.specs.Changes.{touched}
use Rattle.cert_graph.specs.Nodes.{graph_of}
use Rattle.cert_graph.specs.Stairs.{AreFlightsSoFar, AreClimbing, OfEachGroup}
use Rattle.cert_graph.proofs.Flights.{flights_in}
use Rattle.cert_graph.proofs.stairs.climb_some.Given as goal

abbrev pub invariant-loop-change : goal.invariant-loop-change
invariant-loop-change l = record {
  count : length l.flights.items ≡ length l.nodes.groups.items;
  each : (rows : List (List Reach)) → length rows ≡ l.number → OfEachGroup (AreFlightsSoFar (graph_of l.nodes) rows) l.nodes.groups.items (flights_in l.fn.flights.items)
      → AreClimbing (graph_of l.nodes) rows l.row (touched (map (λ p. p.items) l.places) (take l.change-index l.step)) l.nodes.groups.items (flights_in l.flights.items);
}
