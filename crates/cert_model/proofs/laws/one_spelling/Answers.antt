use Rattle.cert_model.proofs.Classes.{one_certificate}
use Rattle.cert_model.proofs.laws.one_spelling.Goals as goal

pub returns : goal.returns
returns c = one_certificate
