use Rattle.std.proofs.Common.{refl, ◌∙◌, ap, map}
use Rattle.cert_model.specs.Octets.{entries_octets, tagged_extensions_octets}
use Rattle.cert_model.specs.View.{entry_view, ext_view}
use Rattle.certpath_rebuild.specs.Cuts.{contents_octets}
use Rattle.certpath_rebuild.proofs.Spelled.{two_parts}
use Rattle.certpath_rebuild.proofs.lists.listed.Goals as goal

pub returns : goal.returns
unfolding contents_octets
returns c =
    two_parts c.time.ensures (two_parts c.next_update.ensures (two_parts (c.entries.ensures ∙ ap (λ z. entries_octets (map entry_view z)) c.as_slice-2.ensures.value) (two_parts (c.tagged_extensions.ensures ∙ ap (λ z. tagged_extensions_octets 0 (map ext_view z)) c.as_slice.ensures.value) refl)))
