use Rattle.std.proofs.Common.{refl}
use Rattle.cert_model.specs.Octets.{attribute_octets}
use Rattle.cert_model.proofs.ascending.headers_of.Goals as goal

pub returns : goal.returns
unfolding attribute_octets
returns c = rw (c.sequence_octets-sequence.ensures, c.size_of.ensures, c.header_octets-name.ensures, c.header_octets-value.ensures) refl
