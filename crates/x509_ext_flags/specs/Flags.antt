-- Flags of bit strings (X.690, 8.6).
use Rattle.std.specs.Prelude.{◌≡◌, ℕ, ◌/◌, ◌%◌, ◌^◌, ◌<◌, ◌==◌, Bool, List, ◌∷◌, length}
use Rattle.asn1_values.specs.Bits.{bit_at, AreStrictBits}

-- bit i of a number
abbrev pub bit_of : ℕ → ℕ → Bool
bit_of flags i = flags / 2 ^ i % 2 == 1

-- bit i of the flags is bit i of the bit string (X.690, 8.6.2.1), for so many i; other bits drop out
pub record AreFlags (width : ℕ) (octets : List ℕ) (flags : ℕ) : Type 0 where
  pub below : flags < 2 ^ width
  pub each : (i : ℕ) → i < width → bit_of flags i ≡ bit_at octets i

-- BIT STRING of DER (X.690, 8.6 and 11.2) as flags
pub record FlagsMean (width : ℕ) (content : List ℕ) (flags : ℕ) : Type 0 where
  pub unused : ℕ
  pub octets : List ℕ
  pub whole : content ≡ unused ∷ octets
  pub strict : AreStrictBits unused octets
  pub bits : AreFlags width octets flags

-- the first sixteen bits
abbrev pub AreSixteen : List ℕ → ℕ → Type 0
AreSixteen = FlagsMean 16

-- bits of one octet
pub record AreEight (content : List ℕ) (flags : ℕ) : Type 0 where
  pub bits : FlagsMean 8 content flags
  pub one : length content ≡ 2
