use Rattle.x509_algorithms.proofs.Items.{signature_is, no_pss_is, no_oaep_is}
use Rattle.x509_algorithms.proofs.worked.worked_parameters.Goals as goal

pub returns-clause-signature : goal.returns-clause-signature
returns-clause-signature c = signature_is

pub returns-clause-pss : goal.returns-clause-pss
returns-clause-pss c = no_pss_is

pub returns-clause-oaep : goal.returns-clause-oaep
returns-clause-oaep c = no_oaep_is
