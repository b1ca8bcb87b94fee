-- What the readers of this crate read, without where it lies in memory. Object identifiers are content octets; `raw` is a
-- window, as octets.
use Rattle.std.specs.Prelude.{ℕ, List, Option}
use Rattle.asn1_core.specs.Elements.{Element}

-- AlgorithmIdentifier (RFC 5280, 4.1.1.2)
pub record Algorithm : Type 0 where
  pub identifier : List ℕ
  pub parameters : Option Element

-- AttributeTypeAndValue (RFC 5280, 4.1.2.4)
pub record Attribute : Type 0 where
  pub identifier : List ℕ
  pub value : Element

-- Name (RFC 5280, 4.1.2.4): its sets of attributes, in the order in which they come
pub record Name : Type 0 where
  pub sets : List (List Attribute)
  pub raw : List ℕ

-- a BIT STRING: how many bits of the last octet are unused, and the octets
pub record Bits : Type 0 where
  pub unused : ℕ
  pub octets : List ℕ

-- SubjectPublicKeyInfo (RFC 5280, 4.1.2.7)
pub record Key : Type 0 where
  pub algorithm : Algorithm
  pub key : Bits
  pub raw : List ℕ

-- RSAPublicKey (RFC 3279, 2.3.1): the contents of its two numbers
pub record RsaKey : Type 0 where
  pub modulus : List ℕ
  pub exponent : List ℕ

-- what a key's octets are for its algorithm
pub data KeyValue : Type 0 where
  rsa : RsaKey → KeyValue
  ec : List ℕ → KeyValue
  dsa : List ℕ → KeyValue
  gost : List ℕ → KeyValue
  gost_2012 : List ℕ → KeyValue
  unknown : List ℕ → KeyValue
