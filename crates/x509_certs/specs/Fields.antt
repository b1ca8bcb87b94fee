-- What the readers of certificates read, without where it lies in memory.
use Rattle.std.specs.Prelude.{ℕ, List, Option}
use Rattle.x509_names.specs.Fields.{Algorithm, Name, Bits, Key}
use Rattle.x509_time.specs.Times.{Period}
use Rattle.x509_ext.specs.Fields.{Extension}

-- TBSCertificate (RFC 5280, 4.1); the version counts from 0, as it is written, and the serial number is its content octets
pub record Tbs : Type 0 where
  pub version : ℕ
  pub serial : List ℕ
  pub signature : Algorithm
  pub issuer : Name
  pub validity : Period
  pub subject : Name
  pub key : Key
  pub issuer_id : Option Bits
  pub subject_id : Option Bits
  pub extensions : List Extension
  pub raw : List ℕ

-- Certificate (RFC 5280, 4.1)
pub record Certificate : Type 0 where
  pub tbs : Tbs
  pub algorithm : Algorithm
  pub signature_value : Bits
  pub raw : List ℕ
