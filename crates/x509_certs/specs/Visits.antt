-- The calls that a walk over a certificate makes, in their order.
use Rattle.std.specs.Prelude.{ℕ, List, [], ◌∷◌, ◌++◌, Option, option_map}
use Rattle.asn1_core.specs.declared.error.Error.{Error}
use Rattle.asn1_core.specs.declared.outcome.Err.{Err as Refusal}
use Rattle.asn1_values.specs.declared.bitstring.BitString.{BitString}
use Rattle.x509_names.specs.declared.algorithm.AlgorithmIdentifier.{AlgorithmIdentifier}
use Rattle.x509_names.specs.declared.key.SubjectPublicKeyInfo.{SubjectPublicKeyInfo}
use Rattle.x509_names.specs.declared.name.X509Name.{X509Name}
use Rattle.x509_time.specs.declared.validity.Validity.{Validity}
use Rattle.x509_ext.specs.Values.{KeyUsage, NSCertType, KeyIdentifier, InhibitAnyPolicy, PolicyConstraints, AuthorityInfoAccess, IssuerAlternativeName, SubjectAlternativeName, NameConstraints, AuthorityKeyIdentifier, BasicConstraints, CRLDistributionPoints, PolicyMappings, PolicyInformation, ExtendedKeyUsage, SignedCertificateTimestamp, ParsedExtension}
use Rattle.x509_ext.specs.Kinds as kinds
use Rattle.x509_ext.specs.declared.extension.X509Extension.{X509Extension}
use Rattle.x509_ext.specs.declared.unique.UniqueIdentifier.{UniqueIdentifier}
use Rattle.x509_ext.specs.declared.version.X509Version.{X509Version}
use Rattle.x509_certs.specs.declared.certificate.X509Certificate.{X509Certificate}
use Rattle.x509_certs.specs.declared.tbs.TbsCertificate.{TbsCertificate}
use Rattle.x509_certs.specs.declared.visit.CertVisit.{CertVisit}
use Rattle.x509_certs.specs.declared.visit.CertVisit.TheVariants as cases

-- a call, and what it reports
pub data Call : Type 0 where
  visit_tbs_certificate : TbsCertificate → Call
  visit_version : X509Version → Call
  visit_serial_number : List ℕ → Call
  visit_tbs_signature_algorithm : AlgorithmIdentifier → Call
  visit_issuer : X509Name → Call
  visit_validity : Validity → Call
  visit_subject : X509Name → Call
  visit_subject_public_key_info : SubjectPublicKeyInfo → Call
  visit_issuer_unique_id : Option UniqueIdentifier → Call
  visit_subject_unique_id : Option UniqueIdentifier → Call
  pre_visit_extensions : List X509Extension → Call
  visit_extension : X509Extension → Call
  visit_extension_aki : AuthorityKeyIdentifier → Call
  visit_extension_ski : KeyIdentifier → Call
  visit_extension_key_usage : KeyUsage → Call
  visit_extension_certificate_policies : List PolicyInformation → Call
  visit_extension_policy_mappings : PolicyMappings → Call
  visit_extension_subject_alternative_name : SubjectAlternativeName → Call
  visit_extension_issuer_alternative_name : IssuerAlternativeName → Call
  visit_extension_basic_constraints : BasicConstraints → Call
  visit_extension_name_constraints : NameConstraints → Call
  visit_extension_policy_constraints : PolicyConstraints → Call
  visit_extension_extended_key_usage : ExtendedKeyUsage → Call
  visit_extension_crl_distribution_points : CRLDistributionPoints → Call
  visit_extension_inhibit_anypolicy : InhibitAnyPolicy → Call
  visit_extension_authority_information_access : AuthorityInfoAccess → Call
  visit_extension_nscert_type : NSCertType → Call
  visit_extension_nscert_comment : List ℕ → Call
  visit_extension_sct : List SignedCertificateTimestamp → Call
  visit_extension_parse_error : X509Extension → Refusal Error → Call
  visit_extension_unknown : X509Extension → Call
  post_visit_extensions : List X509Extension → Call
  visit_signature_algorithm : AlgorithmIdentifier → Call
  visit_signature_value : BitString → Call

-- the data of a call
abbrev pub call_of : CertVisit → Call
call_of (cases.VisitTbsCertificate p) = visit_tbs_certificate p.now
call_of (cases.VisitVersion p) = visit_version p.now
call_of (cases.VisitSerialNumber p) = visit_serial_number p.now
call_of (cases.VisitTbsSignatureAlgorithm p) = visit_tbs_signature_algorithm p.now
call_of (cases.VisitIssuer p) = visit_issuer p.now
call_of (cases.VisitValidity p) = visit_validity p.now
call_of (cases.VisitSubject p) = visit_subject p.now
call_of (cases.VisitSubjectPublicKeyInfo p) = visit_subject_public_key_info p.now
call_of (cases.VisitIssuerUniqueId p) = visit_issuer_unique_id (option_map (λ id. id.now) p)
call_of (cases.VisitSubjectUniqueId p) = visit_subject_unique_id (option_map (λ id. id.now) p)
call_of (cases.PreVisitExtensions p) = pre_visit_extensions p.now
call_of (cases.VisitExtension p) = visit_extension p.now
call_of (cases.VisitExtensionAki p) = visit_extension_aki p.now
call_of (cases.VisitExtensionSki p) = visit_extension_ski p.now
call_of (cases.VisitExtensionKeyUsage p) = visit_extension_key_usage p.now
call_of (cases.VisitExtensionCertificatePolicies p) = visit_extension_certificate_policies p.now.items
call_of (cases.VisitExtensionPolicyMappings p) = visit_extension_policy_mappings p.now
call_of (cases.VisitExtensionSubjectAlternativeName p) = visit_extension_subject_alternative_name p.now
call_of (cases.VisitExtensionIssuerAlternativeName p) = visit_extension_issuer_alternative_name p.now
call_of (cases.VisitExtensionBasicConstraints p) = visit_extension_basic_constraints p.now
call_of (cases.VisitExtensionNameConstraints p) = visit_extension_name_constraints p.now
call_of (cases.VisitExtensionPolicyConstraints p) = visit_extension_policy_constraints p.now
call_of (cases.VisitExtensionExtendedKeyUsage p) = visit_extension_extended_key_usage p.now
call_of (cases.VisitExtensionCrlDistributionPoints p) = visit_extension_crl_distribution_points p.now
call_of (cases.VisitExtensionInhibitAnypolicy p) = visit_extension_inhibit_anypolicy p.now
call_of (cases.VisitExtensionAuthorityInformationAccess p) = visit_extension_authority_information_access p.now
call_of (cases.VisitExtensionNscertType p) = visit_extension_nscert_type p.now
call_of (cases.VisitExtensionNscertComment p) = visit_extension_nscert_comment p.now
call_of (cases.VisitExtensionSct p) = visit_extension_sct p.now
call_of (cases.VisitExtensionParseError p e) = visit_extension_parse_error p.now e.now
call_of (cases.VisitExtensionUnknown p) = visit_extension_unknown p.now
call_of (cases.PostVisitExtensions p) = post_visit_extensions p.now
call_of (cases.VisitSignatureAlgorithm p) = visit_signature_algorithm p.now
call_of (cases.VisitSignatureValue p) = visit_signature_value p.now

-- the call by what an extension's value was parsed as: one line a kind
abbrev pub call_by_kind : X509Extension → ParsedExtension → Call
call_by_kind extension (kinds.AuthorityKeyIdentifier value) = visit_extension_aki value
call_by_kind extension (kinds.SubjectKeyIdentifier value) = visit_extension_ski value
call_by_kind extension (kinds.KeyUsage value) = visit_extension_key_usage value
call_by_kind extension (kinds.CertificatePolicies value) = visit_extension_certificate_policies value.items
call_by_kind extension (kinds.PolicyMappings value) = visit_extension_policy_mappings value
call_by_kind extension (kinds.SubjectAlternativeName value) = visit_extension_subject_alternative_name value
call_by_kind extension (kinds.IssuerAlternativeName value) = visit_extension_issuer_alternative_name value
call_by_kind extension (kinds.BasicConstraints value) = visit_extension_basic_constraints value
call_by_kind extension (kinds.NameConstraints value) = visit_extension_name_constraints value
call_by_kind extension (kinds.PolicyConstraints value) = visit_extension_policy_constraints value
call_by_kind extension (kinds.ExtendedKeyUsage value) = visit_extension_extended_key_usage value
call_by_kind extension (kinds.CRLDistributionPoints value) = visit_extension_crl_distribution_points value
call_by_kind extension (kinds.InhibitAnyPolicy value) = visit_extension_inhibit_anypolicy value
call_by_kind extension (kinds.AuthorityInfoAccess value) = visit_extension_authority_information_access value
call_by_kind extension (kinds.NSCertType value) = visit_extension_nscert_type value
call_by_kind extension (kinds.NsCertComment value) = visit_extension_nscert_comment value.now
call_by_kind extension (kinds.SCT value) = visit_extension_sct value.items
call_by_kind extension (kinds.ParseError error) = visit_extension_parse_error extension error
call_by_kind extension value = visit_extension_unknown extension

-- an extension has two calls: it as it is encoded, and then by its kind
abbrev pub calls_of_extension : X509Extension → List Call
calls_of_extension e = visit_extension e ∷ call_by_kind e e.parsed_extension ∷ []

-- those of extensions, one after the other
abbrev pub calls_of_extensions : List X509Extension → List Call
calls_of_extensions [] = []
calls_of_extensions (e ∷ es) = calls_of_extension e ++ calls_of_extensions es

-- those of the signed part, but for the one that reports all of it
abbrev pub calls_of_tbs : TbsCertificate → List Call
calls_of_tbs t =
    visit_version t.version
    ∷ visit_serial_number t.raw_serial.now
    ∷ visit_tbs_signature_algorithm t.signature
    ∷ visit_issuer t.issuer
    ∷ visit_validity t.validity
    ∷ visit_subject t.subject
    ∷ visit_subject_public_key_info t.subject_pki
    ∷ visit_issuer_unique_id t.issuer_uid
    ∷ visit_subject_unique_id t.subject_uid
    ∷ pre_visit_extensions t.extensions.items
    ∷ calls_of_extensions t.extensions.items
    ++ post_visit_extensions t.extensions.items
    ∷ []

-- those of a certificate
abbrev pub calls_of_certificate : X509Certificate → List Call
calls_of_certificate c =
    visit_tbs_certificate c.tbs_certificate
    ∷ calls_of_tbs c.tbs_certificate
    ++ visit_signature_algorithm c.signature_algorithm
    ∷ visit_signature_value c.signature_value
    ∷ []
