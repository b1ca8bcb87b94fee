use Rattle.std.proofs.Common.{◌≡◌, length, replicate, take}
use Rattle.cert_graph.specs.declared.reach.Reach.TheVariants.{No}
use Rattle.cert_graph.specs.Adequate.{rows_by}
use Rattle.cert_graph.specs.Changes.{last_by}
use Rattle.cert_graph.specs.Nodes.{graph_of}
use Rattle.cert_graph.specs.Stairs.{AreFlightsSoFar, OfEachGroup}
use Rattle.cert_graph.proofs.Changing.{items_by}
use Rattle.cert_graph.proofs.Flights.{flights_in}
use Rattle.cert_graph.proofs.stairs.flights_of.Given as goal

abbrev pub invariant-loop-number : goal.invariant-loop-number
invariant-loop-number l = record {
  row : l.row.items ≡ last_by (replicate (length l.nodes.items.items) No) (items_by (take l.number l.steps));
  each : OfEachGroup (AreFlightsSoFar (graph_of l.nodes) (rows_by (replicate (length l.nodes.items.items) No) (items_by (take l.number l.steps)))) l.nodes.groups.items (flights_in l.flights.items);
}
