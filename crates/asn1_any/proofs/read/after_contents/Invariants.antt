-- The walk goes on with what is left, and each step takes octets.
use Rattle.std.proofs.Common.{length}
use Rattle.asn1_any.proofs.Walks.{GoesOn}
use Rattle.asn1_any.proofs.read.after_contents.Given as goal

abbrev pub invariant-loop-nested : goal.invariant-loop-nested
invariant-loop-nested l = GoesOn l.within l.octets l.levels l.nested l.rest

abbrev pub decreases-loop-nested : goal.decreases-loop-nested
decreases-loop-nested l = length l.rest
