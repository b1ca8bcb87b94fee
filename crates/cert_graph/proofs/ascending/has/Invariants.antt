use Rattle.std.proofs.Common.{◌-◌}
use Rattle.cert_graph.proofs.Halving.{IsBetween}
use Rattle.cert_graph.proofs.ascending.has.Given as goal

abbrev pub invariant-loop-low : goal.invariant-loop-low
invariant-loop-low l = IsBetween l.ascending l.number l.low l.high

abbrev pub decreases-loop-low : goal.decreases-loop-low
decreases-loop-low l = l.high - l.low
