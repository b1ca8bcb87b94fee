-- What the values of extensions hold, without where it lies in memory. Texts are given as their
-- octets, object identifiers as their content octets, flags as numbers.
use Rattle.std.specs.Prelude.{ℕ, List}
use Rattle.x509_ext_basic.specs.x509_time.specs.Times.{Time}
pub use Rattle.x509_ext_basic.specs.x509_ext_flags.specs.Values.{PolicyConstraints}
pub use Rattle.x509_ext_points.specs.x509_ext_names.specs.Values.{GeneralName, other_name, rfc822_name, dns_name, x400_address, directory_name, edi_party_name, uri, ip_address, registered_id, invalid}
pub use Rattle.x509_ext_points.specs.x509_ext_names.specs.Values.{AuthorityKeyIdentifier, NameConstraints, AccessDescription}
pub use Rattle.x509_ext_basic.specs.Values.{BasicConstraints}
pub use Rattle.x509_ext_points.specs.Values.{PointName, full_name, relative_name, DistributionPoint, IssuingDistributionPoint}
pub use Rattle.x509_ext_points.specs.x509_ext_policies.specs.Values.{PolicyQualifierInfo, PolicyInformation, PolicyMapping, ExtendedKeyUsage}
pub use Rattle.x509_ext_sct.specs.Values.{DigitallySigned, SignedCertificateTimestamp}

-- an extension's value by its identifier; why a known one isn't read plays no part
pub data Parsed : Type 0 where
  unsupported : List ℕ → Parsed
  parse_error : Parsed
  authority_key_identifier : AuthorityKeyIdentifier → Parsed
  subject_key_identifier : List ℕ → Parsed
  key_usage : ℕ → Parsed
  certificate_policies : List PolicyInformation → Parsed
  policy_mappings : List PolicyMapping → Parsed
  subject_alternative_name : List GeneralName → Parsed
  issuer_alternative_name : List GeneralName → Parsed
  basic_constraints : BasicConstraints → Parsed
  name_constraints : NameConstraints → Parsed
  policy_constraints : PolicyConstraints → Parsed
  extended_key_usage : ExtendedKeyUsage → Parsed
  crl_distribution_points : List DistributionPoint → Parsed
  inhibit_any_policy : ℕ → Parsed
  authority_info_access : List AccessDescription → Parsed
  subject_info_access : List AccessDescription → Parsed
  ns_cert_type : ℕ → Parsed
  ns_cert_comment : List ℕ → Parsed
  issuing_distribution_point : IssuingDistributionPoint → Parsed
  crl_number : ℕ → Parsed
  reason_code : ℕ → Parsed
  invalidity_date : Time → Parsed
  sct : List SignedCertificateTimestamp → Parsed
  unparsed : Parsed
