-- What a walk over a list shows, in order (RFC 5280, 5.1).
use Rattle.std.specs.Prelude.{List, [], ◌∷◌, ◌++◌, map, Option, option_map}
use Rattle.asn1_core.specs.declared.error.Error.{Error}
use Rattle.asn1_core.specs.declared.outcome.Err.{Err as Refusal}
use Rattle.asn1_unsigned.specs.declared.unsigned.UnsignedBytes.{UnsignedBytes}
use Rattle.asn1_values.specs.declared.bitstring.BitString.{BitString}
use Rattle.x509_names.specs.declared.algorithm.AlgorithmIdentifier.{AlgorithmIdentifier}
use Rattle.x509_names.specs.declared.name.X509Name.{X509Name}
use Rattle.x509_time.specs.declared.time.ASN1Time.{ASN1Time}
use Rattle.x509_ext.specs.Values.{ReasonCode, AuthorityInfoAccess, IssuerAlternativeName, AuthorityKeyIdentifier, IssuingDistributionPoint, SignedCertificateTimestamp, ParsedExtension}
use Rattle.x509_ext.specs.Kinds as cases
use Rattle.x509_ext.specs.declared.extension.X509Extension.{X509Extension}
use Rattle.x509_ext.specs.declared.version.X509Version.{X509Version}
use Rattle.x509_lists.specs.declared.entry.RevokedCertificate.{RevokedCertificate}
use Rattle.x509_lists.specs.declared.tbs.TbsCertList.{TbsCertList}
use Rattle.x509_lists.specs.declared.list.CertificateRevocationList.{CertificateRevocationList}
use Rattle.x509_lists.specs.declared.visit.ListVisit.{ListVisit}
use Rattle.x509_lists.specs.declared.visit.ListVisit.TheVariants as visits

-- a call, and what it reports
pub data Call : Type 0 where
  visit_tbs_cert_list : TbsCertList → Call
  visit_version : Option X509Version → Call
  visit_tbs_signature_algorithm : AlgorithmIdentifier → Call
  visit_issuer : X509Name → Call
  visit_this_update : ASN1Time → Call
  visit_next_update : Option ASN1Time → Call
  visit_revoked_certificates : List RevokedCertificate → Call
  visit_revoked_certificate : RevokedCertificate → Call
  pre_visit_extensions : List X509Extension → Call
  visit_extension : X509Extension → Call
  post_visit_extensions : List X509Extension → Call
  visit_extension_aki : AuthorityKeyIdentifier → Call
  visit_extension_issuer_alternative_name : IssuerAlternativeName → Call
  visit_extension_crl_number : UnsignedBytes → Call
  visit_extension_issuing_distribution_point : IssuingDistributionPoint → Call
  visit_extension_authority_information_access : AuthorityInfoAccess → Call
  visit_extension_reason_code : ReasonCode → Call
  visit_extension_invalidity_date : ASN1Time → Call
  visit_extension_sct : List SignedCertificateTimestamp → Call
  visit_extension_unknown : X509Extension → Call
  visit_extension_parse_error : X509Extension → Refusal Error → Call
  visit_signature_algorithm : AlgorithmIdentifier → Call
  visit_signature_value : BitString → Call

-- the data of a call: each reference by the value that it refers to
abbrev pub call_of : ListVisit → Call
call_of (visits.VisitTbsCertList t) = visit_tbs_cert_list t.now
call_of (visits.VisitVersion v) = visit_version (option_map (λ x. x.now) v)
call_of (visits.VisitTbsSignatureAlgorithm a) = visit_tbs_signature_algorithm a.now
call_of (visits.VisitIssuer n) = visit_issuer n.now
call_of (visits.VisitThisUpdate t) = visit_this_update t.now
call_of (visits.VisitNextUpdate t) = visit_next_update (option_map (λ x. x.now) t)
call_of (visits.VisitRevokedCertificates es) = visit_revoked_certificates es.now
call_of (visits.VisitRevokedCertificate e) = visit_revoked_certificate e.now
call_of (visits.PreVisitExtensions es) = pre_visit_extensions es.now
call_of (visits.VisitExtension e) = visit_extension e.now
call_of (visits.PostVisitExtensions es) = post_visit_extensions es.now
call_of (visits.VisitExtensionAki a) = visit_extension_aki a.now
call_of (visits.VisitExtensionIssuerAlternativeName n) = visit_extension_issuer_alternative_name n.now
call_of (visits.VisitExtensionCrlNumber n) = visit_extension_crl_number n.now
call_of (visits.VisitExtensionIssuingDistributionPoint p) = visit_extension_issuing_distribution_point p.now
call_of (visits.VisitExtensionAuthorityInformationAccess a) = visit_extension_authority_information_access a.now
call_of (visits.VisitExtensionReasonCode r) = visit_extension_reason_code r.now
call_of (visits.VisitExtensionInvalidityDate t) = visit_extension_invalidity_date t.now
call_of (visits.VisitExtensionSct s) = visit_extension_sct s.now
call_of (visits.VisitExtensionUnknown e) = visit_extension_unknown e.now
call_of (visits.VisitExtensionParseError e r) = visit_extension_parse_error e.now r.now
call_of (visits.VisitSignatureAlgorithm a) = visit_signature_algorithm a.now
call_of (visits.VisitSignatureValue s) = visit_signature_value s.now

-- the call by what an extension's value was parsed as; any other kind is unknown, and so is a value that wasn't parsed
abbrev pub call_by_kind : X509Extension → ParsedExtension → Call
call_by_kind e (cases.AuthorityKeyIdentifier a) = visit_extension_aki a
call_by_kind e (cases.IssuerAlternativeName n) = visit_extension_issuer_alternative_name n
call_by_kind e (cases.CRLNumber n) = visit_extension_crl_number n
call_by_kind e (cases.IssuingDistributionPoint p) = visit_extension_issuing_distribution_point p
call_by_kind e (cases.AuthorityInfoAccess a) = visit_extension_authority_information_access a
call_by_kind e (cases.ReasonCode r) = visit_extension_reason_code r
call_by_kind e (cases.InvalidityDate t) = visit_extension_invalidity_date t
call_by_kind e (cases.SCT s) = visit_extension_sct s.items
call_by_kind e (cases.ParseError r) = visit_extension_parse_error e r
call_by_kind e p = visit_extension_unknown e

-- an extension has two calls: it as it is encoded, and then by its kind
abbrev pub calls_of_extension : X509Extension → List Call
calls_of_extension e = visit_extension e ∷ call_by_kind e e.parsed_extension ∷ []

-- those of extensions, one after the other
abbrev pub calls_of_each : List X509Extension → List Call
calls_of_each [] = []
calls_of_each (e ∷ es) = calls_of_extension e ++ calls_of_each es

-- all extensions, each, and all again
abbrev pub calls_of_extensions : List X509Extension → List Call
calls_of_extensions es = pre_visit_extensions es ∷ calls_of_each es ++ post_visit_extensions es ∷ []

-- what comes before the entries
abbrev pub calls_of_fields : TbsCertList → List Call
calls_of_fields t =
    visit_version t.version
    ∷ visit_tbs_signature_algorithm t.signature
    ∷ visit_issuer t.issuer
    ∷ visit_this_update t.this_update
    ∷ visit_next_update t.next_update
    ∷ []

-- all entries, and each
abbrev pub calls_of_entries : List RevokedCertificate → List Call
calls_of_entries es = visit_revoked_certificates es ∷ map visit_revoked_certificate es

-- of a signed part: its fields, its entries and its extensions
abbrev pub calls_of_tbs_list : TbsCertList → List Call
calls_of_tbs_list t =
    calls_of_fields t
    ++ calls_of_entries t.revoked_certificates.items
    ++ calls_of_extensions t.extensions.items

-- of a list: its signed part, what that holds, the algorithm and the signature
abbrev pub calls_of_list : CertificateRevocationList → List Call
calls_of_list l =
    visit_tbs_cert_list l.tbs_cert_list
    ∷ calls_of_tbs_list l.tbs_cert_list
    ++ visit_signature_algorithm l.signature_algorithm
    ∷ visit_signature_value l.signature_value
    ∷ []
