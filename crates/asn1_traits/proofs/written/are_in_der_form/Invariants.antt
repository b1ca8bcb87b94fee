use Rattle.std.proofs.Common.{◌↔◌, length}
use Rattle.asn1_traits.specs.Lists.{EachIs}
use Rattle.asn1_traits.proofs.written.are_in_der_form.Given as goal

abbrev pub invariant-loop-item : goal.invariant-loop-item
invariant-loop-item g l = EachIs g.T.ToDer.is_der l.rest ↔ EachIs g.T.ToDer.is_der l.items

abbrev pub decreases-loop-item : goal.decreases-loop-item
decreases-loop-item g l = length l.rest
