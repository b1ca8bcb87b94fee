-- Bit strings: an octet that counts the unused bits of the last one, then the octets of the bits,
-- the highest bit of each first (X.690, 8.6).
use Rattle.std.specs.Prelude.{◌≡◌, ◌≢◌, ℕ, ◌-◌, ◌/◌, ◌%◌, ◌^◌, ◌<◌, ◌==◌, Bool, List, [], ◌∷◌, length, slice_index, Result, Ok, Err}
use Rattle.asn1_core.specs.declared.error.Error.{Error}
use Rattle.asn1_core.specs.declared.error.Error.TheVariants as errors
use Rattle.asn1_values.specs.declared.bitstring.BitString.{BitString}

-- bit 0 is the highest of the first octet (X.690, 8.6.2.1); after the last octet there is none
abbrev pub bit_at : List ℕ → ℕ → Bool
bit_at octets bit = slice_index octets (bit / 8) / 2 ^ (7 - bit % 8) % 2 == 1

-- at most 7 bits are unused, and none if there is no octet (X.690, 8.6.2.2 and 8.6.2.3)
pub record AreBits (unused : ℕ) (octets : List ℕ) : Type 0 where
  pub few : unused < 8
  pub none : octets ≡ [] → unused ≡ 0

-- the content is these bits
pub record BitsMean (content : List ℕ) (unused : ℕ) (octets : List ℕ) : Type 0 where
  pub whole : content ≡ unused ∷ octets
  pub bits : AreBits unused octets

-- so many of the last octet's lowest bits are 0 (X.690, 11.2.1)
abbrev pub AreUnusedZero : ℕ → List ℕ → Type 0
AreUnusedZero unused octets = slice_index octets (length octets - 1) % 2 ^ unused ≡ 0

-- bits as DER has them
pub record AreStrictBits (unused : ℕ) (octets : List ℕ) : Type 0 where
  pub bits : AreBits unused octets
  pub zero : AreUnusedZero unused octets

-- a content of such bits
pub record IsStrictBitContent (content : List ℕ) : Type 0 where
  pub unused : ℕ
  pub octets : List ℕ
  pub whole : content ≡ unused ∷ octets
  pub strict : AreStrictBits unused octets

-- the bits of the content, or an error if it has none
abbrev pub ReadsBits : List ℕ → Result BitString Error → Type 0
ReadsBits content (Ok v) = BitsMean content v.unused_bits v.content.now
ReadsBits content (Err e) = (e ≢ errors.OutOfMemory) × ((unused : ℕ) (octets : List ℕ) → BitsMean content unused octets → ⊥)
