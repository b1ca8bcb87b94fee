-- What the octets of a key are, by the algorithm of the key, and how long keys are.
use Rattle.std.specs.Prelude.{◌≡◌, ◌≢◌, ℕ, pos, ◌-◌, ◌*◌, ◌^◌, ◌≤◌, nat_lt, ◌==◌, ◌||◌, min, if◌then◌else◌, List, [], ◌∷◌, length}
use Rattle.x509_core.specs.asn1_traits.specs.Integers.{SpellsInteger}
use Rattle.x509_core.specs.Grammar.{Grammar, One, Box}
use Rattle.x509_names.specs.Fields.{RsaKey, KeyValue, rsa, ec, dsa, gost, gost_2012, unknown}
use Rattle.x509_objects.specs.Identifiers.{rsa_id, ec_id, dsa_id, gost_id, gost_2012_256_id, gost_2012_512_id}
use Rattle.x509_names.specs.Leaves.{IsInteger, IsOctets}

-- RSAPublicKey ::= SEQUENCE { modulus INTEGER, publicExponent INTEGER } (RFC 3279, 2.3.1); what is left of the content is ignored
pub record RsaParts (octets : List ℕ) (k : RsaKey) (rest : List ℕ) : Type 0 where
  pub after_modulus : List ℕ
  pub modulus : One IsInteger octets k.modulus after_modulus
  pub exponent : One IsInteger after_modulus k.exponent rest

abbrev pub RSAPublicKey : Grammar RsaKey
RSAPublicKey = Box 16 RsaParts

-- an identifier of a key that isn't one of those below
pub record IsUnknown (identifier : List ℕ) : Type 0 where
  pub no_rsa : identifier ≢ rsa_id
  pub no_ec : identifier ≢ ec_id
  pub no_dsa : identifier ≢ dsa_id
  pub no_gost : identifier ≢ gost_id
  pub no_gost_256 : identifier ≢ gost_2012_256_id
  pub no_gost_512 : identifier ≢ gost_2012_512_id

-- What a key's octets are, by the identifier of its algorithm. Octets after the value are ignored.
pub data IsKeyValue (identifier : List ℕ) (octets : List ℕ) (v : KeyValue) : Type 0 where
  -- RFC 3279, 2.3.1
  is_rsa : (k : RsaKey) (rest : List ℕ) → identifier ≡ rsa_id → RSAPublicKey octets k rest → v ≡ rsa k → IsKeyValue identifier octets v
  -- ECPoint ::= OCTET STRING, its octets (RFC 5480, 2.2)
  is_ec : identifier ≡ ec_id → v ≡ ec octets → IsKeyValue identifier octets v
  -- DSAPublicKey ::= INTEGER (RFC 3279, 2.3.2)
  is_dsa : (y rest : List ℕ) → identifier ≡ dsa_id → One IsInteger octets y rest → v ≡ dsa y → IsKeyValue identifier octets v
  -- GostR3410-2001-PublicKey ::= OCTET STRING (RFC 4491, 2.3.2)
  is_gost : (y rest : List ℕ) → identifier ≡ gost_id → One IsOctets octets y rest → v ≡ gost y → IsKeyValue identifier octets v
  -- GostR3410-2012-256-PublicKey ::= OCTET STRING (RFC 9215, 4)
  is_gost_256 : (y rest : List ℕ) → identifier ≡ gost_2012_256_id → One IsOctets octets y rest → v ≡ gost_2012 y → IsKeyValue identifier octets v
  -- GostR3410-2012-512-PublicKey ::= OCTET STRING (RFC 9215, 4)
  is_gost_512 : (y rest : List ℕ) → identifier ≡ gost_2012_512_id → One IsOctets octets y rest → v ≡ gost_2012 y → IsKeyValue identifier octets v
  is_unknown : IsUnknown identifier → v ≡ unknown octets → IsKeyValue identifier octets v

-- a number of bits as a machine integer: the greatest one if there are more
abbrev pub told_bits : ℕ → ℕ
told_bits n = min n (2 ^ 64 - 1)

-- 8 bits an octet but for the first; none of a modulus that is empty or negative
abbrev pub rsa_bits : List ℕ → ℕ
rsa_bits [] = 0
rsa_bits (first ∷ octets) = if nat_lt first 128 then told_bits (8 * length octets) else 0

-- one coordinate of two after 04, of one after 02 and 03 (SEC 1, 2.3.3)
abbrev pub ec_bits : List ℕ → ℕ
ec_bits [] = 0
ec_bits (form ∷ octets) =
    if form == 4 then told_bits (4 * length octets) else (if (form == 2) || (form == 3) then told_bits (8 * length octets) else 0)

-- in bits; 0 if the kind has no size
abbrev pub key_bits : KeyValue → ℕ
key_bits (rsa k) = rsa_bits k.modulus
key_bits (ec point) = ec_bits point
key_bits (dsa y) = told_bits (8 * length y)
key_bits (gost y) = told_bits (8 * length y)
key_bits (gost_2012 y) = 0
key_bits (unknown octets) = 0

-- a number that isn't negative, of at most 8 octets
pub record IsExponent (content : List ℕ) (n : ℕ) : Type 0 where
  pub short : length content ≤ 8
  pub spells : SpellsInteger content (pos n)
