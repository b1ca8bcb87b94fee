use Rattle.std.proofs.Common.{refl}
use Rattle.x509_core.specs.declared.error.X509Error.TheVariants as errors
use Rattle.x509_ext.specs.Fields.{IsUnparsed, unread}
use Rattle.x509_ext.proofs.ExtensionLaws.{unread_law}
use Rattle.laws_x509.specs.RefusedOctets as refused
use Rattle.laws_x509.proofs.Below.{below_tested}
use Rattle.laws_x509.proofs.CertificateSteps.{certificate_only}
use Rattle.laws_x509.proofs.RefusedCertificates.{unnumbered, no_signature_algorithm, no_signature_value}
use Rattle.laws_x509.proofs.refused.example_of_refused_certificates.Goals as goal

pub returns-clause-serial : goal.returns-clause-serial
returns-clause-serial c = let below = below_tested refused.unnumbered refl in (below, certificate_only IsUnparsed unread unread_law errors.InvalidSerial refused.unnumbered below unnumbered, unnumbered)

pub returns-clause-algorithm : goal.returns-clause-algorithm
returns-clause-algorithm c = let below = below_tested refused.no_signature_algorithm refl in (below, certificate_only IsUnparsed unread unread_law errors.InvalidAlgorithmIdentifier refused.no_signature_algorithm below no_signature_algorithm, no_signature_algorithm)

pub returns-clause-signature_value : goal.returns-clause-signature_value
returns-clause-signature_value c = let below = below_tested refused.no_signature_value refl in (below, certificate_only IsUnparsed unread unread_law errors.InvalidSignatureValue refused.no_signature_value below no_signature_value, no_signature_value)
