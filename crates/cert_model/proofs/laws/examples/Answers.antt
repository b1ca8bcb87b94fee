use Rattle.cert_model.proofs.Examples.{plain_spelled, constrained_spelled, issued_by_b_spelled, authority_b_spelled, revoking_spelled}
use Rattle.cert_model.proofs.laws.examples.Goals as goal

pub returns-clause-plain : goal.returns-clause-plain
returns-clause-plain c = plain_spelled

pub returns-clause-constrained : goal.returns-clause-constrained
returns-clause-constrained c = constrained_spelled

pub returns-clause-issued_by_b : goal.returns-clause-issued_by_b
returns-clause-issued_by_b c = issued_by_b_spelled

pub returns-clause-authority_b : goal.returns-clause-authority_b
returns-clause-authority_b c = authority_b_spelled

pub returns-clause-revoking : goal.returns-clause-revoking
returns-clause-revoking c = revoking_spelled
