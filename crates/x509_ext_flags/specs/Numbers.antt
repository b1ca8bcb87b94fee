-- Numbers of contents.
use Rattle.std.specs.Prelude.{◌<◌, ◌^◌, ℕ, pos, List}
use Rattle.x509_core.specs.asn1_traits.specs.Integers.{IsShortest, SpellsInteger}

-- a number of 32 bits without a sign, in the fewest octets (X.690, 8.3)
pub record IsNumber (content : List ℕ) (n : ℕ) : Type 0 where
  pub shortest : IsShortest content
  pub value : SpellsInteger content (pos n)
  pub small : n < 2 ^ 32
