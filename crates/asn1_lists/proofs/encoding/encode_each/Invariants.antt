use Rattle.std.proofs.Common.{length, map}
use Rattle.std.specs.Vec.{vec_items}
use Rattle.asn1_lists.proofs.Encoded.{Encoded}
use Rattle.asn1_lists.proofs.encoding.encode_each.Given as goal

abbrev pub invariant-loop-item : goal.invariant-loop-item
invariant-loop-item g l = Encoded g.T.ToDer.element g.T.ToDer.is_der l.items l.rest (map vec_items l.parts.items)

abbrev pub decreases-loop-item : goal.decreases-loop-item
decreases-loop-item g l = length l.rest
