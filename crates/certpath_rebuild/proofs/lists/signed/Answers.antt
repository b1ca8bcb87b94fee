use Rattle.std.proofs.Common.{◌∙◌, ap}
use Rattle.cert_model.specs.Octets.{sequence_octets, tbs_cert_list_octets}
use Rattle.cert_model.specs.View.{list_view}
use Rattle.certpath_rebuild.specs.Cuts.{contents_octets}
use Rattle.certpath_rebuild.proofs.Spelled.{two_parts, same}
use Rattle.certpath_rebuild.proofs.lists.signed.Goals as goal

pub returns : goal.returns
unfolding tbs_cert_list_octets contents_octets
returns c =
    c.sequence.ensures ∙ ap sequence_octets
    (two_parts c.version.ensures (two_parts c.algorithm.ensures (two_parts c.name.ensures (same (contents_octets (list_view c.args.fields.now))))))
