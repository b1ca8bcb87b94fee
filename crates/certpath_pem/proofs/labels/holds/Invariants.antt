use Rattle.std.proofs.Common.{◌≡◌, length}
use Rattle.certpath_pem.specs.Labels.{holds}
use Rattle.certpath_pem.proofs.labels.holds.Given as goal

abbrev pub invariant-loop-after : goal.invariant-loop-after
invariant-loop-after l = holds l.words l.rest ≡ holds l.words l.octets

abbrev pub decreases-loop-after : goal.decreases-loop-after
decreases-loop-after l = length l.rest
