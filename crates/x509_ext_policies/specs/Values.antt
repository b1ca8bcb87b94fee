-- What the values of this crate's types stand for. Object identifiers are given as their content
-- octets.
use Rattle.std.specs.Prelude.{ℕ, Bool, List, Option}

-- PolicyQualifierInfo, PolicyInformation (RFC 5280, 4.2.1.4)
pub record PolicyQualifierInfo : Type 0 where
  pub policy_qualifier_id : List ℕ
  pub qualifier : List ℕ

pub record PolicyInformation : Type 0 where
  pub policy_id : List ℕ
  pub policy_qualifiers : Option (List PolicyQualifierInfo)

-- one of the PolicyMappings (RFC 5280, 4.2.1.5)
pub record PolicyMapping : Type 0 where
  pub issuer_domain_policy : List ℕ
  pub subject_domain_policy : List ℕ

-- ExtKeyUsageSyntax (RFC 5280, 4.2.1.12), sorted by purpose
pub record ExtendedKeyUsage : Type 0 where
  pub any : Bool
  pub server_auth : Bool
  pub client_auth : Bool
  pub code_signing : Bool
  pub email_protection : Bool
  pub time_stamping : Bool
  pub ocsp_signing : Bool
  pub other : List (List ℕ)
