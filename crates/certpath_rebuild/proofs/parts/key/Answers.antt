use Rattle.std.proofs.Common.{◌∙◌, ap}
use Rattle.cert_model.specs.Octets.{sequence_octets, key_octets}
use Rattle.certpath_rebuild.proofs.Spelled.{two_parts}
use Rattle.certpath_rebuild.proofs.parts.key.Goals as goal

pub returns : goal.returns
unfolding key_octets
returns c = c.sequence.ensures ∙ ap sequence_octets (two_parts c.algorithm.ensures c.bits.ensures)
