-- Single elements, and what they mean. A leaf is primitive; its tag number is compared, its class isn't.
use Rattle.std.specs.Prelude.{◌≡◌, ℕ, List, ◌∷◌}
use Rattle.asn1_any.specs.Cutting.{Piece}
use Rattle.x509_core.specs.asn1_traits.specs.Integers.{IsShortest}
use Rattle.asn1_values.specs.Bits.{AreStrictBits}
use Rattle.x509_core.specs.Leaves.{Leaf}
use Rattle.x509_names.specs.Fields.{Bits}
pub use Rattle.x509_core.specs.Leaves.{Leaf, IsOid, IsOctets, IsAny}

-- a content of the fewest octets (X.690, 8.3.2)
pub record IsShortestContent (content : List ℕ) (v : List ℕ) : Type 0 where
  pub same : v ≡ content
  pub shortest : IsShortest content

-- INTEGER, as its content
abbrev pub IsInteger : Piece → List ℕ → Type 0
IsInteger = Leaf 2 IsShortestContent

-- how many bits are unused, then the bits, the unused ones being 0 (X.690, 8.6 and 11.2)
pub record AreBits (content : List ℕ) (b : Bits) : Type 0 where
  pub whole : content ≡ b.unused ∷ b.octets
  pub strict : AreStrictBits b.unused b.octets

-- BIT STRING
abbrev pub IsBits : Piece → Bits → Type 0
IsBits = Leaf 3 AreBits
