use Rattle.std.proofs.Common.{◌∙◌, ap}
use Rattle.asn1_traits.specs.Integers.{turned, integer_octets}
use Rattle.asn1_traits.proofs.integer.whole_octets.Goals as goal

pub returns-then-whole : goal.returns-then-whole
unfolding integer_octets
returns-then-whole c = rw c.if-whole.true (c.turned_octets.ensures ∙ ap turned (c.as_slice.ensures.value ∙ c.positive_octets-octets.ensures.octets))

pub returns-else-whole : goal.returns-else-whole
unfolding integer_octets
returns-else-whole c = rw c.if-whole.false c.positive_octets-octets.ensures.octets
