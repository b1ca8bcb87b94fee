use Rattle.std.proofs.Common.{length, filter}
use Rattle.certpath_pem.specs.Blocks.{is_symbol}
use Rattle.certpath_pem.proofs.PieceFacts.{SoFar}
use Rattle.certpath_pem.proofs.pieces.decoded.Given as goal

abbrev pub invariant-loop-after : goal.invariant-loop-after
invariant-loop-after l = SoFar l.limit (filter is_symbol l.body) (filter is_symbol l.rest) l.first.items l.count

abbrev pub decreases-loop-after : goal.decreases-loop-after
decreases-loop-after l = length l.rest
