use Rattle.std.proofs.Common.{refl}
use Rattle.x509_core.specs.declared.error.X509Error.TheVariants as errors
use Rattle.x509_ext.specs.Fields.{unread}
use Rattle.laws_x509.specs.RefusedOctets as refused
use Rattle.laws_x509.proofs.Below.{below_tested}
use Rattle.laws_x509.proofs.CertificateSteps.{tbs_only}
use Rattle.laws_x509.proofs.RefusedCertificates.{no_version, no_serial, no_signature, no_validity, no_certified_algorithm, no_certified_bits, no_issuer_id, no_subject_id, no_extensions}
use Rattle.laws_x509.proofs.refused.example_of_refused_signed_parts.Goals as goal

pub returns-clause-version : goal.returns-clause-version
returns-clause-version c = let below = below_tested refused.no_version refl in (below, tbs_only unread errors.InvalidVersion refused.no_version below no_version, no_version)

pub returns-clause-serial : goal.returns-clause-serial
returns-clause-serial c = let below = below_tested refused.no_serial refl in (below, tbs_only unread errors.InvalidSerial refused.no_serial below no_serial, no_serial)

pub returns-clause-signature : goal.returns-clause-signature
returns-clause-signature c = let below = below_tested refused.no_signature refl in (below, tbs_only unread errors.InvalidAlgorithmIdentifier refused.no_signature below no_signature, no_signature)

pub returns-clause-validity : goal.returns-clause-validity
returns-clause-validity c = let below = below_tested refused.no_validity refl in (below, tbs_only unread errors.InvalidDate refused.no_validity below no_validity, no_validity)

pub returns-clause-key_algorithm : goal.returns-clause-key_algorithm
returns-clause-key_algorithm c = let below = below_tested refused.no_certified_algorithm refl in (below, tbs_only unread errors.InvalidAlgorithmIdentifier refused.no_certified_algorithm below no_certified_algorithm, no_certified_algorithm)

pub returns-clause-key_bits : goal.returns-clause-key_bits
returns-clause-key_bits c = let below = below_tested refused.no_certified_bits refl in (below, tbs_only unread errors.InvalidSPKI refused.no_certified_bits below no_certified_bits, no_certified_bits)

pub returns-clause-issuer_id : goal.returns-clause-issuer_id
returns-clause-issuer_id c = let below = below_tested refused.no_issuer_id refl in (below, tbs_only unread errors.InvalidIssuerUID refused.no_issuer_id below no_issuer_id, no_issuer_id)

pub returns-clause-subject_id : goal.returns-clause-subject_id
returns-clause-subject_id c = let below = below_tested refused.no_subject_id refl in (below, tbs_only unread errors.InvalidSubjectUID refused.no_subject_id below no_subject_id, no_subject_id)

pub returns-clause-extensions : goal.returns-clause-extensions
returns-clause-extensions c = let below = below_tested refused.no_extensions refl in (below, tbs_only unread errors.InvalidExtensions refused.no_extensions below no_extensions, no_extensions)
