-- The list of signed certificate timestamps (RFC 6962, 3.2 and 3.3), in the notation of TLS (RFC 5246, 4).
use Rattle.std.specs.Prelude.{◌≡◌, ℕ, List, ◌∷◌, ◌++◌, length}
use Rattle.std.specs.Int.Digits.{number_from_digits}
use Rattle.x509_core.specs.Grammar.{Grammar, One}
use Rattle.x509_core.specs.Leaves.{Leaf}
use Rattle.x509_items.specs.Grammar.{OneOrMore}
use Rattle.x509_ext_sct.specs.Values as values

-- opaque [n]: so many octets
pub record Fixed (n : ℕ) (octets v rest : List ℕ) : Type 0 where
  pub size : length v ≡ n
  pub whole : octets ≡ v ++ rest

-- a number in so many octets, the highest first (RFC 5246, 4.4)
pub record Number (n : ℕ) (octets : List ℕ) (v : ℕ) (rest : List ℕ) : Type 0 where
  pub digits : List ℕ
  pub there : Fixed n octets digits rest
  pub value : v ≡ number_from_digits 256 digits

-- opaque <0..2^16-1>: a length in two octets, then so many octets (RFC 5246, 4.3)
pub record Opaque (octets v rest : List ℕ) : Type 0 where
  pub size : ℕ
  pub after : List ℕ
  pub told : Number 2 octets size after
  pub there : Fixed size after v rest

-- struct { SignatureAndHashAlgorithm algorithm; opaque signature<0..2^16-1>; } DigitallySigned (RFC 5246, 4.7)
pub record DigitallySigned (octets : List ℕ) (d : values.DigitallySigned) (rest : List ℕ) : Type 0 where
  pub after : List ℕ
  pub algorithm : octets ≡ d.hash_alg_id ∷ d.sign_alg_id ∷ after
  pub content : Opaque after d.content rest

-- struct { Version sct_version; LogID id; uint64 timestamp; CtExtensions extensions; digitally-signed .. }
--   SignedCertificateTimestamp (RFC 6962, 3.2); version 0 is v1, and others are taken too
pub record TimestampParts (octets : List ℕ) (t : values.SignedCertificateTimestamp) (rest : List ℕ) : Type 0 where
  pub after_version : List ℕ
  pub version : octets ≡ t.version ∷ after_version
  pub after_id : List ℕ
  pub id : Fixed 32 after_version t.id after_id
  pub after_time : List ℕ
  pub timestamp : Number 8 after_id t.timestamp after_time
  pub after_extensions : List ℕ
  pub extensions : Opaque after_time t.extensions after_extensions
  pub signature : DigitallySigned after_extensions t.signature rest

-- opaque SerializedSCT<1..2^16-1> (RFC 6962, 3.3); what is left of it is ignored
pub record Timestamp (octets : List ℕ) (t : values.SignedCertificateTimestamp) (rest : List ℕ) : Type 0 where
  pub inner : List ℕ
  pub counted : Opaque octets inner rest
  pub left : List ℕ
  pub parts : TimestampParts inner t left

-- struct { SerializedSCT sct_list <1..2^16-1>; } SignedCertificateTimestampList (RFC 6962, 3.3); as many as begin, one at least;
-- what is left after them, and after the list, is ignored
pub record AreTimestamps (content : List ℕ) (ts : List values.SignedCertificateTimestamp) : Type 0 where
  pub inner : List ℕ
  pub behind : List ℕ
  pub counted : Opaque content inner behind
  pub left : List ℕ
  pub each : OneOrMore Timestamp inner ts left

-- within an OCTET STRING
abbrev pub TimestampList : Grammar (List values.SignedCertificateTimestamp)
TimestampList = One (Leaf 4 AreTimestamps)
