use Rattle.std.proofs.Common.{refl, ◌∙◌, ap, map}
use Rattle.cert_model.specs.Octets.{tagged_extensions_octets}
use Rattle.cert_model.specs.View.{ext_view}
use Rattle.certpath_rebuild.specs.Cuts.{additions_octets}
use Rattle.certpath_rebuild.proofs.Spelled.{two_parts}
use Rattle.certpath_rebuild.proofs.certificates.added.Goals as goal

pub returns : goal.returns
unfolding additions_octets
returns c =
    two_parts c.implicit_bits-2.ensures (two_parts c.implicit_bits.ensures (two_parts (c.tagged_extensions.ensures ∙ ap (λ z. tagged_extensions_octets 3 (map ext_view z)) c.as_slice.ensures.value) refl))
