use Rattle.std.specs.Prelude.{IsTrue}
use Rattle.cert_reasons.proofs.Certain.{not_unusable}
use Rattle.cert_reasons.proofs.laws.certificate_without_reasons_is_not_unusable.Goals as goal

pub returns : goal.returns
returns c = λ processes. not_unusable (λ id. IsTrue (processes id))
