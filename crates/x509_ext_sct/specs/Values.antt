-- What a signed certificate timestamp holds, without where it lies in memory.
use Rattle.std.specs.Prelude.{ℕ, List}

-- SignedCertificateTimestamp (RFC 6962, 3.2) with the parts of its signature (RFC 5246, 4.7)
pub record DigitallySigned : Type 0 where
  pub hash_alg_id : ℕ
  pub sign_alg_id : ℕ
  pub content : List ℕ

pub record SignedCertificateTimestamp : Type 0 where
  pub version : ℕ
  pub id : List ℕ
  pub timestamp : ℕ
  pub extensions : List ℕ
  pub signature : DigitallySigned
