use Rattle.cert_model.specs.Examples.{authority_b}
use Rattle.cert_judge.proofs.Examples.{authority_is_fit}
use Rattle.cert_reasons.proofs.OfIssuers.{no_reason}
use Rattle.cert_reasons.proofs.Worked.{end_entity, name_constraints_stand}
use Rattle.cert_reasons.proofs.laws.examples_of_issuers.Goals as goal

pub returns-clause-end_entity : goal.returns-clause-end_entity
returns-clause-end_entity c = end_entity

pub returns-clause-names : goal.returns-clause-names
returns-clause-names c = name_constraints_stand

pub returns-clause-fit : goal.returns-clause-fit
returns-clause-fit c = λ r. no_reason authority_b r authority_is_fit.issues
