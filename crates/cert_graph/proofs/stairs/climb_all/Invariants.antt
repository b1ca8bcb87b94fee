use Rattle.std.proofs.Common.{◌≡◌, List, length}
use Rattle.cert_graph.specs.declared.reach.Reach.{Reach}
use Rattle.cert_graph.specs.Nodes.{graph_of}
use Rattle.cert_graph.specs.Stairs.{AreFlightsSoFar, OfEachGroup}
use Rattle.cert_graph.proofs.Flights.{AreOnTo, flights_in}
use Rattle.cert_graph.proofs.stairs.climb_all.Given as goal

abbrev pub invariant-loop-place : goal.invariant-loop-place
invariant-loop-place l = record {
  count : length l.flights.items ≡ length l.nodes.groups.items;
  each : (rows : List (List Reach)) → length rows ≡ l.number → OfEachGroup (AreFlightsSoFar (graph_of l.nodes) rows) l.nodes.groups.items (flights_in l.fn.flights.items) → AreOnTo (graph_of l.nodes) rows l.row l.place l.nodes.groups.items (flights_in l.flights.items);
}
