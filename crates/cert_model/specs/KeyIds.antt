-- Key identifiers (RFC 5280, 4.2.1.1 and 4.2.1.2).
use Rattle.std.specs.Prelude.{◌≡◌, ℕ, List, ◌∷◌, ◌++◌, false}
use Rattle.asn1_core.specs.Elements.{element_octets}
use Rattle.der_tree.specs.Object.{IsDerObject}
use Rattle.cert_model.specs.Fields.{Identifier, Extension, Certificate}
use Rattle.cert_model.specs.Octets.{sequence_octets, primitive_octets}
use Rattle.cert_model.specs.Extended.{IsWithout, authority_key_identifier, subject_key_identifier}

-- the value of the first extension of an identifier
pub record IsFirstUnder (identifier : Identifier) (es : List Extension) (value : List ℕ) : Type 0 where
  pub front : List Extension
  pub extension : Extension
  pub back : List Extension
  pub place : es ≡ front ++ extension ∷ back
  pub under : extension.identifier ≡ identifier
  pub first : IsWithout identifier front
  pub value_is : extension.value ≡ value

-- keyIdentifier [0] IMPLICIT OCTET STRING
abbrev pub key_identifier_octets : List ℕ → List ℕ
key_identifier_octets id = element_octets (record { class = 2; constructed = false; tag = 0; content = id })

-- the key identifier that begins the one sequence which the octets are, whatever follows it
abbrev pub BeginsWithKeyId : List ℕ → List ℕ → Type 0
BeginsWithKeyId value id = (others : List ℕ) × (value ≡ sequence_octets (key_identifier_octets id ++ others))

-- SEQUENCE { keyIdentifier [0] IMPLICIT OCTET STRING, .. } (RFC 5280, 4.2.1.1), at most 50 levels
pub record IsAuthorityKeyId (c : Certificate) (id : List ℕ) : Type 0 where
  pub value : List ℕ
  pub stands : IsFirstUnder authority_key_identifier c.extensions value
  pub object : IsDerObject 50 value
  pub spelled : BeginsWithKeyId value id

-- SubjectKeyIdentifier ::= OCTET STRING (RFC 5280, 4.2.1.2)
pub record IsSubjectKeyId (c : Certificate) (id : List ℕ) : Type 0 where
  pub value : List ℕ
  pub stands : IsFirstUnder subject_key_identifier c.extensions value
  pub spelled : value ≡ primitive_octets 4 id
