-- The fields of certificates and revocation lists (RFC 5280, 4.1 and 5.1), without where their
-- octets lie in memory.
use Rattle.std.specs.Prelude.{ℕ, ℤ, List, Bool, Option}
use Rattle.asn1_core.specs.Elements.{Element}

-- a number, as the content octets of an INTEGER
abbrev pub Number : Type 0
Number = List ℕ

-- an object identifier, as the content octets of an OBJECT IDENTIFIER
abbrev pub Identifier : Type 0
Identifier = List ℕ

-- AlgorithmIdentifier (RFC 5280, 4.1.1.2); the parameters are any element
pub record Algorithm : Type 0 where
  pub identifier : Identifier
  pub parameters : Option Element

-- AttributeTypeAndValue (RFC 5280, 4.1.2.4)
pub record Attribute : Type 0 where
  pub identifier : Identifier
  pub value : Element

-- RelativeDistinguishedName: a set, in the order in which it is written
abbrev pub RelativeName : Type 0
RelativeName = List Attribute

-- RDNSequence (RFC 5280, 4.1.2.4)
abbrev pub Name : Type 0
Name = List RelativeName

-- a BIT STRING: how many bits of the last octet are unused, and the octets
pub record Bits : Type 0 where
  pub unused : ℕ
  pub octets : List ℕ

-- SubjectPublicKeyInfo (RFC 5280, 4.1.2.7)
pub record Key : Type 0 where
  pub algorithm : Algorithm
  pub key : Bits

-- Extension (RFC 5280, 4.1 and 4.2); the value is the content of its OCTET STRING
pub record Extension : Type 0 where
  pub identifier : Identifier
  pub critical : Bool
  pub value : List ℕ

-- a civil date and time in UTC
pub record CivilTime : Type 0 where
  pub year : ℤ
  pub month : ℕ
  pub day : ℕ
  pub hour : ℕ
  pub minute : ℕ
  pub second : ℕ
  pub nanosecond : ℕ

-- Certificate with its TBSCertificate (RFC 5280, 4.1); the version counts from 0, as it is written
pub record Certificate : Type 0 where
  pub version : ℕ
  pub serial : Number
  pub signature : Algorithm
  pub issuer : Name
  pub not_before : CivilTime
  pub not_after : CivilTime
  pub subject : Name
  pub key : Key
  pub issuer_id : Option Bits
  pub subject_id : Option Bits
  pub extensions : List Extension
  pub algorithm : Algorithm
  pub signature_value : Bits

-- an entry of revokedCertificates (RFC 5280, 5.1.2.6)
pub record Entry : Type 0 where
  pub serial : Number
  pub date : CivilTime
  pub extensions : List Extension

-- CertificateList with its TBSCertList (RFC 5280, 5.1)
pub record RevocationList : Type 0 where
  pub version : Option ℕ
  pub signature : Algorithm
  pub issuer : Name
  pub this_update : CivilTime
  pub next_update : Option CivilTime
  pub entries : List Entry
  pub extensions : List Extension
  pub algorithm : Algorithm
  pub signature_value : Bits
