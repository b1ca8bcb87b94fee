use Rattle.cert_vouchers.proofs.Agreeing.{answers_agree}
use Rattle.cert_vouchers.proofs.laws.one_answer.Goals as goal

pub returns : goal.returns
returns c = answers_agree
