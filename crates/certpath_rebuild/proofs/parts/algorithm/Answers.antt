use Rattle.std.proofs.Common.{◌∙◌, ap}
use Rattle.cert_model.specs.Octets.{sequence_octets, algorithm_octets}
use Rattle.certpath_rebuild.proofs.Spelled.{two_parts}
use Rattle.certpath_rebuild.proofs.parts.algorithm.Goals as goal

pub returns : goal.returns
unfolding algorithm_octets
returns c = c.sequence.ensures ∙ ap sequence_octets (two_parts c.plain.ensures c.optional.ensures)
