-- What the readers of certification requests read, without where it lies in memory.
use Rattle.std.specs.Prelude.{ℕ, List}
use Rattle.x509_names.specs.Fields.{Algorithm, Name, Bits, Key}
use Rattle.x509_ext.specs.Fields.{Extension}

-- what the values of an attribute were read as: extensions, a text as its octets, or nothing
pub data AttributeValues : Type 0 where
  extension_request : List Extension → AttributeValues
  challenge_password : List ℕ → AttributeValues
  unsupported_attribute : AttributeValues

-- Attribute (RFC 2986, 4.1); its window is of its values, from their SET's header on
pub record RequestAttribute : Type 0 where
  pub identifier : List ℕ
  pub raw : List ℕ
  pub values : AttributeValues

-- CertificationRequestInfo (RFC 2986, 4.1); the version counts from 0, as it is written
pub record RequestInfo : Type 0 where
  pub version : ℕ
  pub subject : Name
  pub key : Key
  pub attributes : List RequestAttribute
  pub raw : List ℕ

-- CertificationRequest (RFC 2986, 4.2)
pub record Request : Type 0 where
  pub info : RequestInfo
  pub algorithm : Algorithm
  pub signature_value : Bits
  pub raw : List ℕ
