use Rattle.cert_model.proofs.Classes.{not_both_lem}
use Rattle.cert_model.proofs.laws.never_both.Goals as goal

pub returns : goal.returns
returns c = not_both_lem
