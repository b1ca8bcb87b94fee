use Rattle.cert_model.specs.View.{certificate_view}
use Rattle.certpath_rebuild.specs.Cuts.{additions_octets, holder_octets}
use Rattle.certpath_rebuild.proofs.Spelled.{two_parts, same}
use Rattle.certpath_rebuild.proofs.certificates.held.Goals as goal

pub returns : goal.returns
unfolding holder_octets
returns c =
    two_parts c.validity.ensures (two_parts c.name.ensures (two_parts c.key.ensures (same (additions_octets (certificate_view c.args.fields.now)))))
