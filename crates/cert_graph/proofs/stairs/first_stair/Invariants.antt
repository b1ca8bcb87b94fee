use Rattle.std.proofs.Common.{◌-◌, ◌<◌, ◌≤◌, length, get_or}
use Rattle.cert_graph.specs.declared.stairs.Stair.{Stair}
use Rattle.cert_graph.specs.Reach.{Takes}
use Rattle.cert_graph.proofs.stairs.first_stair.Given as goal

abbrev pub invariant-loop-low : goal.invariant-loop-low
invariant-loop-low l = record {
  order : l.low ≤ l.high;
  small : l.high ≤ length l.stairs;
  before : (d : Stair) → 0 < l.low → Takes (get_or l.stairs (l.low - 1) d).reach l.count → ⊥;
  there : (d : Stair) → l.high < length l.stairs → Takes (get_or l.stairs l.high d).reach l.count;
}

abbrev pub decreases-loop-low : goal.decreases-loop-low
decreases-loop-low l = l.high - l.low
