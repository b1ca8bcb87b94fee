-- What the readers of revocation lists read, without where it lies in memory.
use Rattle.std.specs.Prelude.{ℕ, List, Option}
use Rattle.x509_names.specs.Fields.{Algorithm, Name, Bits}
use Rattle.x509_time.specs.Times.{Time}
use Rattle.x509_ext.specs.Fields.{Extension}

-- an entry of revokedCertificates (RFC 5280, 5.1); the serial number is its content octets
pub record Entry : Type 0 where
  pub serial : List ℕ
  pub date : Time
  pub extensions : List Extension

-- TBSCertList (RFC 5280, 5.1); the version counts from 0, as it is written, and is none if none is
pub record TbsList : Type 0 where
  pub version : Option ℕ
  pub signature : Algorithm
  pub issuer : Name
  pub this_update : Time
  pub next_update : Option Time
  pub entries : List Entry
  pub extensions : List Extension
  pub raw : List ℕ

-- CertificateList (RFC 5280, 5.1)
pub record RevocationList : Type 0 where
  pub tbs : TbsList
  pub algorithm : Algorithm
  pub signature_value : Bits
  pub raw : List ℕ
