use Rattle.x509_certs.proofs.Items.{plain_is, other_class_is, constrained_is}
use Rattle.x509_certs.proofs.laws.worked_certificates.Goals as goal

pub returns-clause-plain : goal.returns-clause-plain
returns-clause-plain c = plain_is

pub returns-clause-other_class : goal.returns-clause-other_class
returns-clause-other_class c = other_class_is

pub returns-clause-constrained : goal.returns-clause-constrained
returns-clause-constrained c = constrained_is
