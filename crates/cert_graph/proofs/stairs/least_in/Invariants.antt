use Rattle.std.proofs.Common.{ℕ, ◌-◌, ◌<◌, ◌≤◌, length, get_or}
use Rattle.cert_graph.specs.declared.stairs.Flight.{Flight}
use Rattle.cert_graph.proofs.Climbing.{Ascend}
use Rattle.cert_graph.proofs.stairs.least_in.Given as goal

abbrev pub invariant-loop-low : goal.invariant-loop-low
invariant-loop-low l = record {
  order : l.low ≤ l.high;
  small : l.high ≤ length l.flights;
  begins : (d : Flight) → 0 < l.low → (get_or l.flights (l.low - 1) d).row ≤ l.row;
  later : Ascend l.flights → (j : ℕ) (d : Flight) → l.high ≤ j → j < length l.flights → l.row < (get_or l.flights j d).row;
}

abbrev pub decreases-loop-low : goal.decreases-loop-low
decreases-loop-low l = l.high - l.low
