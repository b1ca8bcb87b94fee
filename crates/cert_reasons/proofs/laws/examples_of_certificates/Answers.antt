use Rattle.std.proofs.Common.{◌≡◌, true, [], ◌∷◌}
use Rattle.cert_model.specs.Extended.{basic_constraints}
use Rattle.cert_judge.specs.Examples.{in_june, extended_by, extension, unconstrained, extended_key_usage}
use Rattle.cert_judge.specs.Further.{no_identifier}
use Rattle.cert_judge.proofs.Examples.{critical_extension, processed_extension}
use Rattle.cert_reasons.proofs.Certain.{no_reason}
use Rattle.cert_reasons.proofs.Worked.{expired, expired_and_repeated, unprocessed, badly_written}
use Rattle.cert_reasons.proofs.laws.examples_of_certificates.Goals as goal

pub returns-clause-expired : goal.returns-clause-expired
returns-clause-expired c = expired

pub returns-clause-twice : goal.returns-clause-twice
returns-clause-twice c = expired_and_repeated

pub returns-clause-unprocessed : goal.returns-clause-unprocessed
returns-clause-unprocessed c = unprocessed

pub returns-clause-processed : goal.returns-clause-processed
returns-clause-processed c = λ r. no_reason (λ identifier. identifier ≡ extended_key_usage) in_june (extended_by (extension extended_key_usage true unconstrained ∷ [])) r processed_extension

pub returns-clause-written : goal.returns-clause-written
returns-clause-written c = badly_written

pub returns-clause-usable : goal.returns-clause-usable
returns-clause-usable c = λ r. no_reason no_identifier in_june (extended_by (extension basic_constraints true unconstrained ∷ [])) r critical_extension
