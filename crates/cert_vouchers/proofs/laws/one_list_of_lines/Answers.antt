use Rattle.cert_vouchers.proofs.LineFacts.{one_list}
use Rattle.cert_vouchers.proofs.laws.one_list_of_lines.Goals as goal

pub returns : goal.returns
returns c = one_list
