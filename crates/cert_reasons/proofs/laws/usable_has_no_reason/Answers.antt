use Rattle.std.specs.Prelude.{IsTrue}
use Rattle.cert_reasons.proofs.Certain.{no_reason}
use Rattle.cert_reasons.proofs.laws.usable_has_no_reason.Goals as goal

pub returns : goal.returns
returns c = λ processes. no_reason (λ id. IsTrue (processes id))
