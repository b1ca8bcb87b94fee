use Rattle.laws_x509.proofs.NameSteps.{key_found, key_only, rsa_found, rsa_only}
use Rattle.laws_x509.proofs.refusals.refused_keys.Goals as goal

pub returns-clause-found : goal.returns-clause-found
returns-clause-found c = key_found

pub returns-clause-only : goal.returns-clause-only
returns-clause-only c = key_only

pub returns-clause-rsa_found : goal.returns-clause-rsa_found
returns-clause-rsa_found c = rsa_found

pub returns-clause-rsa_only : goal.returns-clause-rsa_only
returns-clause-rsa_only c = rsa_only
