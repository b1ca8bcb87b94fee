use Rattle.std.proofs.Common.{◌≡◌, [], length}
use Rattle.std.specs.Prelude.{All}
use Rattle.cert_graph.proofs.stairs.no_flights.Given as goal

abbrev pub invariant-loop : goal.invariant-loop
invariant-loop l = record {
  count : length l.flights.items ≡ l.counter;
  empty : All (λ f. f.items ≡ []) l.flights.items;
}
