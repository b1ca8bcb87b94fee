use Rattle.std.proofs.Common.{◌-◌, length}
use Rattle.cert_framing.specs.Advance.{Walks}
use Rattle.cert_framing.proofs.bundle.advance.Given as goal

abbrev pub invariant-loop-size : goal.invariant-loop-size
invariant-loop-size l = Walks l.limit l.octets l.from l.fn.ends.items l.ends.items l.at

abbrev pub decreases-loop-size : goal.decreases-loop-size
decreases-loop-size l = length l.octets - l.at
