use Rattle.x509_ext.specs.Fields.{meaning_of, reading_of}
use Rattle.x509_ext.proofs.ExtensionLaws.{reads_law}
use Rattle.laws_x509.proofs.CertificateSteps.{tbs_found, tbs_only, certificate_found, certificate_only}
use Rattle.laws_x509.proofs.refusals.refused_certificates.Goals as goal

pub returns-clause-signed_found : goal.returns-clause-signed_found
returns-clause-signed_found c = tbs_found

pub returns-clause-signed_only : goal.returns-clause-signed_only
returns-clause-signed_only c = tbs_only

pub returns-clause-found : goal.returns-clause-found
returns-clause-found c = λ deep. certificate_found (meaning_of deep) (reading_of deep) (reads_law deep)

pub returns-clause-only : goal.returns-clause-only
returns-clause-only c = λ deep. certificate_only (meaning_of deep) (reading_of deep) (reads_law deep)
