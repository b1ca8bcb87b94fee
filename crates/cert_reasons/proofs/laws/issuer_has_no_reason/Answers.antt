use Rattle.cert_reasons.proofs.OfIssuers.{no_reason}
use Rattle.cert_reasons.proofs.laws.issuer_has_no_reason.Goals as goal

pub returns : goal.returns
returns c = no_reason
