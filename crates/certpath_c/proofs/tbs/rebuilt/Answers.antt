use Rattle.std.proofs.Common.{refl}
use Rattle.cert_model.specs.View.{certificate_view}
use Rattle.cert_serving.proofs.Certificates.{none_read}
use Rattle.certpath_c.proofs.tbs.rebuilt.Goals as goal

pub returns-in-Certificate : goal.returns-in-Certificate
returns-in-Certificate c =
    let h = rw c.in-Certificate.is at c.in_ok-fields.ensures.class in
    (certificate_view c.in-Certificate.fields, h, c.in_ok-octets-in-Certificate.ensures)

pub returns : goal.returns
returns c = none_read c.args.item.now c.in_ok-fields.field-0 c.in_ok-fields.ensures.class c.in_default.not-Certificate
