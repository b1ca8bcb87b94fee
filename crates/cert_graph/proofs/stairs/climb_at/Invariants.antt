use Rattle.std.proofs.Common.{◌≡◌, ℕ, ◌++◌, List, length, take}
use Rattle.cert_graph.specs.declared.reach.Reach.{Reach}
use Rattle.cert_graph.specs.Nodes.{graph_of}
use Rattle.cert_graph.specs.Stairs.{AreClimbing}
use Rattle.cert_graph.proofs.Flights.{flights_in}
use Rattle.cert_graph.proofs.stairs.climb_at.Given as goal

abbrev pub invariant-loop-place : goal.invariant-loop-place
invariant-loop-place l = record {
  count : length l.flights.items ≡ length l.nodes.groups.items;
  each : (rows : List (List Reach)) (done : List ℕ) → length rows ≡ l.number → AreClimbing (graph_of l.nodes) rows l.row done l.nodes.groups.items (flights_in l.fn.flights.items) → AreClimbing (graph_of l.nodes) rows l.row (done ++ take l.place-index l.places) l.nodes.groups.items (flights_in l.flights.items);
}
