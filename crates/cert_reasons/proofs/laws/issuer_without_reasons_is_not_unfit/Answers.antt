use Rattle.cert_reasons.proofs.OfIssuers.{not_unfit}
use Rattle.cert_reasons.proofs.laws.issuer_without_reasons_is_not_unfit.Goals as goal

pub returns : goal.returns
returns c = not_unfit
