use Rattle.std.specs.Prelude.{IsTrue}
use Rattle.cert_judge.specs.Examples.{in_june}
use Rattle.cert_reasons.proofs.Certain.{no_reason}
use Rattle.laws_judge.specs.Worked.{is_purpose, purposed}
use Rattle.laws_judge.proofs.OfReasons.{expired, usable_by_test}
use Rattle.laws_judge.proofs.reasons.example_of_certificates.Goals as goal

pub returns-clause-usable : goal.returns-clause-usable
returns-clause-usable c = usable_by_test

pub returns-clause-none : goal.returns-clause-none
returns-clause-none c = λ reason h. no_reason (λ identifier. IsTrue (is_purpose identifier)) in_june purposed reason usable_by_test h

pub returns-clause-all : goal.returns-clause-all
returns-clause-all c = expired (λ identifier. IsTrue (is_purpose identifier))
