use Rattle.cert_vouchers.proofs.Agreeing.{cuttings_agree}
use Rattle.cert_vouchers.proofs.laws.any_cutting.Goals as goal

pub returns : goal.returns
returns c = cuttings_agree
