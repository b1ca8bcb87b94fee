-- Algorithms, names and keys as they are read leniently (RFC 5280, 4.1). What is left of the content of a SEQUENCE or SET is
-- ignored.
use Rattle.std.specs.Prelude.{◌≢◌, ℕ, List, []}
use Rattle.x509_core.specs.Grammar.{Grammar, One, Box, WindowBox, AsMany, UnlessAtEnd}
use Rattle.x509_names.specs.Fields.{Algorithm, Attribute, Name, Key}
use Rattle.x509_names.specs.Leaves.{IsOid, IsAny, IsBits}

-- AlgorithmIdentifier ::= SEQUENCE { algorithm OBJECT IDENTIFIER, parameters ANY DEFINED BY algorithm OPTIONAL }
-- (RFC 5280, 4.1.1.2)
pub record AlgorithmParts (octets : List ℕ) (a : Algorithm) (rest : List ℕ) : Type 0 where
  pub after_algorithm : List ℕ
  pub algorithm : One IsOid octets a.identifier after_algorithm
  pub parameters : UnlessAtEnd (One IsAny) after_algorithm a.parameters rest

abbrev pub AlgorithmIdentifier : Grammar Algorithm
AlgorithmIdentifier = Box 16 AlgorithmParts

-- AttributeTypeAndValue ::= SEQUENCE { type AttributeType, value AttributeValue } (RFC 5280, 4.1.2.4)
pub record AttributeParts (octets : List ℕ) (a : Attribute) (rest : List ℕ) : Type 0 where
  pub after_type : List ℕ
  pub attr_type : One IsOid octets a.identifier after_type
  pub attr_value : One IsAny after_type a.value rest

abbrev pub AttributeTypeAndValue : Grammar Attribute
AttributeTypeAndValue = Box 16 AttributeParts

-- RelativeDistinguishedName ::= SET SIZE (1..MAX) OF AttributeTypeAndValue (RFC 5280, 4.1.2.4)
pub record RelativeParts (octets : List ℕ) (attributes : List Attribute) (rest : List ℕ) : Type 0 where
  pub some : attributes ≢ []
  pub each : AsMany AttributeTypeAndValue octets attributes rest

abbrev pub RelativeDistinguishedName : Grammar (List Attribute)
RelativeDistinguishedName = Box 17 RelativeParts

-- RDNSequence ::= SEQUENCE OF RelativeDistinguishedName (RFC 5280, 4.1.2.4)
abbrev pub NameParts : Grammar Name
NameParts octets n rest = AsMany RelativeDistinguishedName octets n.sets rest

-- its window ends where the sets do
abbrev pub X509Name : Grammar Name
X509Name = WindowBox 16 NameParts (λ n. n.raw)

-- SubjectPublicKeyInfo ::= SEQUENCE { algorithm AlgorithmIdentifier, subjectPublicKey BIT STRING } (RFC 5280, 4.1)
pub record KeyParts (octets : List ℕ) (k : Key) (rest : List ℕ) : Type 0 where
  pub after_algorithm : List ℕ
  pub algorithm : AlgorithmIdentifier octets k.algorithm after_algorithm
  pub subject_public_key : One IsBits after_algorithm k.key rest

-- its window ends where the bits do
abbrev pub SubjectPublicKeyInfo : Grammar Key
SubjectPublicKeyInfo = WindowBox 16 KeyParts (λ k. k.raw)
