use Rattle.std.proofs.Common.{◌≡◌, ◌+◌, length}
use Rattle.asn1_traits.specs.Lists.{all_written}
use Rattle.asn1_traits.proofs.written.items_len.Given as goal

abbrev pub invariant-loop-item : goal.invariant-loop-item
invariant-loop-item g l = l.total + length (all_written g.T.ToDer.element l.rest) ≡ length (all_written g.T.ToDer.element l.items)

abbrev pub decreases-loop-item : goal.decreases-loop-item
decreases-loop-item g l = length l.rest
