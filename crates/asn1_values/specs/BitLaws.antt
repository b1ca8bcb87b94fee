-- What is written of a bit string is read back.
use Rattle.std.proofs.Common.{◌≡◌, refl, sym, ℕ, List, ◌∷◌}
use Rattle.asn1_values.specs.Bits.{BitsMean, AreStrictBits, IsStrictBitContent}

pub bits_fit : (unused : ℕ) (octets : List ℕ) → AreStrictBits unused octets → IsStrictBitContent (unused ∷ octets) × BitsMean (unused ∷ octets) unused octets
bits_fit unused octets strict =
    (record { unused = unused; octets = octets; whole = refl; strict = strict }, record { whole = refl; bits = strict.bits })

pub bits_same : (unused other : ℕ) (octets others : List ℕ) → BitsMean (unused ∷ octets) other others → other ∷ others ≡ unused ∷ octets
bits_same unused other octets others read = sym read.whole
