use Rattle.std.proofs.Common.{refl, ◌∙◌, ap}
use Rattle.cert_model.specs.Octets.{sequence_octets, certificate_octets, tbs_certificate_octets}
use Rattle.cert_model.specs.View.{certificate_view}
use Rattle.certpath_rebuild.proofs.Spelled.{two_parts, same}
use Rattle.certpath_rebuild.proofs.certificates.certificate.Goals as goal

pub returns : goal.returns
unfolding certificate_octets
returns c =
    c.sequence.ensures ∙ ap sequence_octets
    (two_parts (same (tbs_certificate_octets (certificate_view c.args.fields.now))) (two_parts c.algorithm.ensures (two_parts c.bits.ensures refl)))
