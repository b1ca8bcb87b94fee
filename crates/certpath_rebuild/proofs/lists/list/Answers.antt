use Rattle.std.proofs.Common.{refl, ◌∙◌, ap}
use Rattle.cert_model.specs.Octets.{sequence_octets, list_octets, tbs_cert_list_octets}
use Rattle.cert_model.specs.View.{list_view}
use Rattle.certpath_rebuild.proofs.Spelled.{two_parts, same}
use Rattle.certpath_rebuild.proofs.lists.list.Goals as goal

pub returns : goal.returns
unfolding list_octets
returns c =
    c.sequence.ensures ∙ ap sequence_octets
    (two_parts (same (tbs_cert_list_octets (list_view c.args.fields.now))) (two_parts c.algorithm.ensures (two_parts c.bits.ensures refl)))
