use Rattle.cert_reasons.specs.Certificates.{HasReason, order_of}
use Rattle.cert_reasons.proofs.Certain.{no_reason, not_unusable}
use Rattle.cert_reasons.proofs.Ordered.{one_list}
use Rattle.cert_reasons.proofs.laws_by.certificate_reasons_by.Goals as goal

pub returns : goal.returns
returns g c = record {
  usable = λ item. no_reason ((g.V.Vouch.vouches_for c.args._vouch.now).Processes item);
  unusable = λ item. not_unusable ((g.V.Vouch.vouches_for c.args._vouch.now).Processes item);
  one = λ item moment d. one_list order_of (HasReason ((g.V.Vouch.vouches_for c.args._vouch.now).Processes item) moment d);
}
