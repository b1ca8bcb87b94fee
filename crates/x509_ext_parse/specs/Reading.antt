-- Values of extensions, parsed by a function on octets. What they are parsed as is defined in
-- `Parsed`; laws tie the function to it.
use Rattle.std.specs.Prelude.{ℕ, if◌then◌else◌, List, [], ◌∷◌, Option, Some, None, Ok, Err, bytes_eq}
use Rattle.x509_core.specs.Answers.{Answer}
use Rattle.x509_ext_parse.specs.Values as values
use Rattle.x509_ext_basic.specs.x509_ext_flags.specs.Reading.{key_identifier_at, usage_at, netscape_at, policy_constraints_at, inhibit_at}
use Rattle.x509_ext_points.specs.x509_ext_names.specs.Reading.{authority_key_at, alternative_at, name_constraints_at, info_access_at}
use Rattle.x509_ext_basic.specs.Reading.{constraints_at, number_at, reason_at, date_at, comment_at}
use Rattle.x509_ext_points.specs.x509_ext_policies.specs.Reading.{policies_at, mappings_at, purposes_at}
use Rattle.x509_ext_points.specs.Reading.{points_at, issuing_at}
use Rattle.x509_ext_sct.specs.Reading.{list_at}
use Rattle.x509_ext_parse.specs.Kinds.{identifier_of}
use Rattle.x509_ext_parse.specs.declared.kind.Kind.{Kind}
use Rattle.x509_ext_parse.specs.declared.kind.Kind.TheVariants as kinds

-- the kind of this identifier among some
abbrev pub among : List ℕ → List Kind → Option Kind
among identifier [] = None
among identifier (kind ∷ others) = if bytes_eq (identifier_of kind) identifier then Some kind else among identifier others

-- all of them
abbrev pub known : List Kind
known =
    kinds.SubjectKeyIdentifier ∷
    kinds.KeyUsage ∷
    kinds.SubjectAlternativeName ∷
    kinds.IssuerAlternativeName ∷
    kinds.BasicConstraints ∷
    kinds.CRLNumber ∷
    kinds.ReasonCode ∷
    kinds.InvalidityDate ∷
    kinds.IssuingDistributionPoint ∷
    kinds.NameConstraints ∷
    kinds.CRLDistributionPoints ∷
    kinds.CertificatePolicies ∷
    kinds.PolicyMappings ∷
    kinds.AuthorityKeyIdentifier ∷
    kinds.PolicyConstraints ∷
    kinds.ExtendedKeyUsage ∷
    kinds.InhibitAnyPolicy ∷
    kinds.AuthorityInfoAccess ∷
    kinds.SubjectInfoAccess ∷
    kinds.SCT ∷
    kinds.NSCertType ∷
    kinds.NsCertComment ∷ []

abbrev pub kind_of : List ℕ → Option Kind
kind_of identifier = among identifier known

-- what was read, if anything was
abbrev pub made : {A : Type 0} → (A → values.Parsed) → Answer (A × List ℕ) → Option values.Parsed
made make (Ok x) = Some (make x.0)
made make (Err why) = None

abbrev pub value_in : Kind → List ℕ → Option values.Parsed
value_in kinds.SubjectKeyIdentifier value = made values.subject_key_identifier (key_identifier_at value)
value_in kinds.KeyUsage value = made values.key_usage (usage_at value)
value_in kinds.SubjectAlternativeName value = made values.subject_alternative_name (alternative_at value)
value_in kinds.IssuerAlternativeName value = made values.issuer_alternative_name (alternative_at value)
value_in kinds.BasicConstraints value = made values.basic_constraints (constraints_at value)
value_in kinds.CRLNumber value = made values.crl_number (number_at value)
value_in kinds.ReasonCode value = made values.reason_code (reason_at value)
value_in kinds.InvalidityDate value = made values.invalidity_date (date_at value)
value_in kinds.IssuingDistributionPoint value = made values.issuing_distribution_point (issuing_at value)
value_in kinds.NameConstraints value = made values.name_constraints (name_constraints_at value)
value_in kinds.CRLDistributionPoints value = made values.crl_distribution_points (points_at value)
value_in kinds.CertificatePolicies value = made values.certificate_policies (policies_at value)
value_in kinds.PolicyMappings value = made values.policy_mappings (mappings_at value)
value_in kinds.AuthorityKeyIdentifier value = made values.authority_key_identifier (authority_key_at value)
value_in kinds.PolicyConstraints value = made values.policy_constraints (policy_constraints_at value)
value_in kinds.ExtendedKeyUsage value = made values.extended_key_usage (purposes_at value)
value_in kinds.InhibitAnyPolicy value = made values.inhibit_any_policy (inhibit_at value)
value_in kinds.AuthorityInfoAccess value = made values.authority_info_access (info_access_at value)
value_in kinds.SubjectInfoAccess value = made values.subject_info_access (info_access_at value)
value_in kinds.SCT value = made values.sct (list_at value)
value_in kinds.NSCertType value = made values.ns_cert_type (netscape_at value)
value_in kinds.NsCertComment value = made values.ns_cert_comment (comment_at value)

abbrev pub or_error : Option values.Parsed → values.Parsed
or_error None = values.parse_error
or_error (Some parsed) = parsed

abbrev pub by_kind : Option Kind → List ℕ → List ℕ → values.Parsed
by_kind None identifier value = values.unsupported identifier
by_kind (Some kind) identifier value = or_error (value_in kind value)

unfoldable pub deeply : List ℕ → List ℕ → values.Parsed
deeply identifier value = by_kind (kind_of identifier) identifier value
