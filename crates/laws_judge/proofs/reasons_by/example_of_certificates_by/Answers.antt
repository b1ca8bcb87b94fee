use Rattle.cert_model.specs.Examples.{authority_b}
use Rattle.cert_judge.specs.Examples.{in_june}
use Rattle.cert_reasons.proofs.Certain.{no_reason}
use Rattle.laws_judge.proofs.OfReasons.{expired, usable_authority}
use Rattle.laws_judge.proofs.reasons_by.example_of_certificates_by.Goals as goal

pub returns-clause-usable : goal.returns-clause-usable
returns-clause-usable c = usable_authority

pub returns-clause-none : goal.returns-clause-none
returns-clause-none c = λ reason h. no_reason (λ identifier. ⊥) in_june authority_b reason usable_authority h

pub returns-clause-all : goal.returns-clause-all
returns-clause-all c = expired (λ identifier. ⊥)
