use Rattle.cert_judge.proofs.Examples.{authority_is_fit, limit_is_zero, length_is_zero, signer_is_fit, encipherer_is_not}
use Rattle.cert_judge.proofs.laws.examples_of_issuers.Goals as goal

pub returns-clause-authority : goal.returns-clause-authority
returns-clause-authority c = authority_is_fit

pub returns-clause-limit : goal.returns-clause-limit
returns-clause-limit c = limit_is_zero

pub returns-clause-path_length : goal.returns-clause-path_length
returns-clause-path_length c = length_is_zero

pub returns-clause-signing : goal.returns-clause-signing
returns-clause-signing c = signer_is_fit

pub returns-clause-encipherment : goal.returns-clause-encipherment
returns-clause-encipherment c = encipherer_is_not
