use Rattle.x509_algorithms.proofs.Items.{rsa_is, oaep_is, ecdsa_is, dsa_is, ed25519_is, pss_is, bare_pss_not, ed448_not}
use Rattle.x509_algorithms.proofs.worked.worked_algorithms.Goals as goal

pub returns-clause-rsa : goal.returns-clause-rsa
returns-clause-rsa c = rsa_is

pub returns-clause-oaep : goal.returns-clause-oaep
returns-clause-oaep c = oaep_is

pub returns-clause-ecdsa : goal.returns-clause-ecdsa
returns-clause-ecdsa c = ecdsa_is

pub returns-clause-dsa : goal.returns-clause-dsa
returns-clause-dsa c = dsa_is

pub returns-clause-ed25519 : goal.returns-clause-ed25519
returns-clause-ed25519 c = ed25519_is

pub returns-clause-pss : goal.returns-clause-pss
returns-clause-pss c = pss_is

pub returns-clause-bare_pss : goal.returns-clause-bare_pss
returns-clause-bare_pss c = bare_pss_not

pub returns-clause-ed448 : goal.returns-clause-ed448
returns-clause-ed448 c = ed448_not
