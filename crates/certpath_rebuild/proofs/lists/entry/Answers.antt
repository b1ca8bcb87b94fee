use Rattle.std.proofs.Common.{refl, ◌∙◌, ap, map}
use Rattle.cert_model.specs.Octets.{sequence_octets, entry_octets, extensions_octets, several_octets}
use Rattle.cert_model.specs.View.{ext_view}
use Rattle.certpath_rebuild.proofs.Spelled.{two_parts}
use Rattle.certpath_rebuild.proofs.lists.entry.Goals as goal

pub returns : goal.returns
unfolding entry_octets
returns c =
    c.sequence.ensures ∙ ap sequence_octets
    (two_parts c.plain.ensures (two_parts c.time.ensures (two_parts (c.extensions.ensures ∙ ap (λ z. several_octets extensions_octets (map ext_view z)) c.as_slice.ensures.value) refl)))
