-- Policies, as they are read leniently (RFC 5280, 4.2.1.4 and 4.2.1.5). `Box n P` looks at the tag number alone, `Sequence P` wants
-- a constructed universal element; what is left of the content is ignored, except at `ToEnd`.
use Rattle.std.specs.Prelude.{◌≡◌, ℕ, List, []}
use Rattle.x509_core.specs.Grammar.{Grammar, One, Box, ToEnd, Maybe}
use Rattle.x509_core.specs.Leaves.{IsOid}
use Rattle.x509_items.specs.Grammar.{OneOrMore, Sequence}
use Rattle.x509_ext_policies.specs.Values as values

-- PolicyQualifierInfo ::= SEQUENCE { policyQualifierId OBJECT IDENTIFIER, qualifier ANY DEFINED BY policyQualifierId }
-- (RFC 5280, 4.2.1.4); the qualifier is all octets that are left, an element or not
pub record PolicyQualifierParts (octets : List ℕ) (q : values.PolicyQualifierInfo) (rest : List ℕ) : Type 0 where
  pub policy_qualifier_id : One IsOid octets q.policy_qualifier_id q.qualifier
  pub all_left : rest ≡ []

abbrev pub PolicyQualifierInfo : Grammar values.PolicyQualifierInfo
PolicyQualifierInfo = Box 16 PolicyQualifierParts

-- PolicyInformation ::= SEQUENCE { policyIdentifier OBJECT IDENTIFIER, policyQualifiers SEQUENCE SIZE (1..MAX) OF PolicyQualifierInfo
--   OPTIONAL } (RFC 5280, 4.2.1.4)
pub record PolicyParts (octets : List ℕ) (p : values.PolicyInformation) (rest : List ℕ) : Type 0 where
  pub after_id : List ℕ
  pub policy_id : One IsOid octets p.policy_id after_id
  pub policy_qualifiers : Maybe (Box 16 (OneOrMore PolicyQualifierInfo)) after_id p.policy_qualifiers rest

abbrev pub PolicyInformation : Grammar values.PolicyInformation
PolicyInformation = Box 16 PolicyParts

-- CertificatePolicies ::= SEQUENCE SIZE (1..MAX) OF PolicyInformation (RFC 5280, 4.2.1.4); none is taken too
abbrev pub CertificatePolicies : Grammar (List values.PolicyInformation)
CertificatePolicies = Box 16 (ToEnd PolicyInformation)

-- PolicyMappings ::= SEQUENCE SIZE (1..MAX) OF SEQUENCE { issuerDomainPolicy CertPolicyId, subjectDomainPolicy CertPolicyId }
-- (RFC 5280, 4.2.1.5); both sequences are constructed and universal, and none is taken too
pub record MappingParts (octets : List ℕ) (m : values.PolicyMapping) (rest : List ℕ) : Type 0 where
  pub after_issuer : List ℕ
  pub issuer_domain_policy : One IsOid octets m.issuer_domain_policy after_issuer
  pub subject_domain_policy : One IsOid after_issuer m.subject_domain_policy rest

abbrev pub PolicyMapping : Grammar values.PolicyMapping
PolicyMapping = Sequence MappingParts

abbrev pub PolicyMappings : Grammar (List values.PolicyMapping)
PolicyMappings = Sequence (ToEnd PolicyMapping)
