use Rattle.std.proofs.Common.{◌≡◌, length}
use Rattle.certcheck.specs.Ascending.{ascend_after}
use Rattle.certcheck.specs.Windows.{trees_in}
use Rattle.certcheck.proofs.names.ascend_after.Given as goal

-- What the last part and those left are is what all are.
abbrev pub invariant-loop-after : goal.invariant-loop-after
invariant-loop-after l = ascend_after l.last (trees_in l.rest) ≡ ascend_after l.before (trees_in l.parts)

abbrev pub decreases-loop-after : goal.decreases-loop-after
decreases-loop-after l = length l.rest
