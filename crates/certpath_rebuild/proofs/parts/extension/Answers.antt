use Rattle.std.proofs.Common.{◌∙◌, ap, refl}
use Rattle.cert_model.specs.Octets.{sequence_octets, extension_octets}
use Rattle.certpath_rebuild.proofs.Spelled.{two_parts}
use Rattle.certpath_rebuild.proofs.parts.extension.Goals as goal

pub returns : goal.returns
unfolding extension_octets
returns c = c.sequence.ensures ∙ ap sequence_octets (two_parts c.plain-2.ensures (two_parts c.critical.ensures (two_parts c.plain.ensures refl)))
