-- What the value of an extension is parsed as, by the extension's identifier.
use Rattle.std.specs.Prelude.{◌≡◌, ℕ, List}
use Rattle.x509_core.specs.Grammar.{Grammar}
use Rattle.x509_ext_parse.specs.Values as values
use Rattle.x509_ext_basic.specs.x509_ext_flags.specs.Extensions.{KeyIdentifier, KeyUsage, NetscapeType, PolicyConstraints, InhibitAnyPolicy}
use Rattle.x509_ext_points.specs.x509_ext_names.specs.Extensions.{AuthorityKeyIdentifier, AlternativeName, NameConstraints, InfoAccess}
use Rattle.x509_ext_basic.specs.Leaves.{BasicConstraints, CRLNumber, CRLReason, InvalidityDate, NetscapeComment}
use Rattle.x509_ext_points.specs.x509_ext_policies.specs.Policies.{CertificatePolicies, PolicyMappings}
use Rattle.x509_ext_points.specs.x509_ext_policies.specs.Purposes.{ExtendedKeyUsage}
use Rattle.x509_ext_points.specs.Points.{CRLDistributionPoints, IssuingDistributionPoint}
use Rattle.x509_ext_sct.specs.Timestamps.{TimestampList}
use Rattle.x509_ext_parse.specs.Kinds.{identifier_of}
use Rattle.x509_ext_parse.specs.declared.kind.Kind.{Kind}
use Rattle.x509_ext_parse.specs.declared.kind.Kind.TheVariants as kinds

-- the value begins so; octets after it are ignored
pub record Begins {A : Type 0} (P : Grammar A) (make : A → values.Parsed) (value : List ℕ) (parsed : values.Parsed) : Type 0 where
  pub content : A
  pub rest : List ℕ
  pub begins : P value content rest
  pub is : parsed ≡ make content

-- what a value of each kind is read as
abbrev pub IsOf : Kind → List ℕ → values.Parsed → Type 0
IsOf kinds.SubjectKeyIdentifier = Begins KeyIdentifier values.subject_key_identifier
IsOf kinds.KeyUsage = Begins KeyUsage values.key_usage
IsOf kinds.SubjectAlternativeName = Begins AlternativeName values.subject_alternative_name
IsOf kinds.IssuerAlternativeName = Begins AlternativeName values.issuer_alternative_name
IsOf kinds.BasicConstraints = Begins BasicConstraints values.basic_constraints
IsOf kinds.CRLNumber = Begins CRLNumber values.crl_number
IsOf kinds.ReasonCode = Begins CRLReason values.reason_code
IsOf kinds.InvalidityDate = Begins InvalidityDate values.invalidity_date
IsOf kinds.IssuingDistributionPoint = Begins IssuingDistributionPoint values.issuing_distribution_point
IsOf kinds.NameConstraints = Begins NameConstraints values.name_constraints
IsOf kinds.CRLDistributionPoints = Begins CRLDistributionPoints values.crl_distribution_points
IsOf kinds.CertificatePolicies = Begins CertificatePolicies values.certificate_policies
IsOf kinds.PolicyMappings = Begins PolicyMappings values.policy_mappings
IsOf kinds.AuthorityKeyIdentifier = Begins AuthorityKeyIdentifier values.authority_key_identifier
IsOf kinds.PolicyConstraints = Begins PolicyConstraints values.policy_constraints
IsOf kinds.ExtendedKeyUsage = Begins ExtendedKeyUsage values.extended_key_usage
IsOf kinds.InhibitAnyPolicy = Begins InhibitAnyPolicy values.inhibit_any_policy
IsOf kinds.AuthorityInfoAccess = Begins InfoAccess values.authority_info_access
IsOf kinds.SubjectInfoAccess = Begins InfoAccess values.subject_info_access
IsOf kinds.SCT = Begins TimestampList values.sct
IsOf kinds.NSCertType = Begins NetscapeType values.ns_cert_type
IsOf kinds.NsCertComment = Begins NetscapeComment values.ns_cert_comment

-- a known identifier, whose value is read or can't be; or an unknown one
pub data IsParsed (identifier value : List ℕ) (parsed : values.Parsed) : Type 0 where
  is_read : (kind : Kind) → identifier ≡ identifier_of kind → IsOf kind value parsed → IsParsed identifier value parsed
  is_refused :
      (kind : Kind) → identifier ≡ identifier_of kind → ((other : values.Parsed) → IsOf kind value other → ⊥)
      → parsed ≡ values.parse_error → IsParsed identifier value parsed
  is_unknown : ((kind : Kind) → identifier ≡ identifier_of kind → ⊥) → parsed ≡ values.unsupported identifier → IsParsed identifier value parsed
