use Rattle.std.proofs.Common.{◌∙◌, ap}
use Rattle.cert_model.specs.Octets.{sequence_octets, tbs_certificate_octets}
use Rattle.cert_model.specs.View.{certificate_view}
use Rattle.certpath_rebuild.specs.Cuts.{additions_octets, holder_octets}
use Rattle.certpath_rebuild.proofs.Spelled.{two_parts, same}
use Rattle.certpath_rebuild.proofs.certificates.signed.Goals as goal

pub returns : goal.returns
unfolding tbs_certificate_octets holder_octets additions_octets
returns c =
    c.sequence.ensures ∙ ap sequence_octets
    (two_parts c.version.ensures (two_parts c.plain.ensures (two_parts c.algorithm.ensures (two_parts c.name.ensures (same (holder_octets (certificate_view c.args.fields.now)))))))
