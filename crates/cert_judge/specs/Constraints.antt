-- The value of basicConstraints in its one spelling (RFC 5280, 4.2.1.9; X.690, 10 and 11).
use Rattle.std.specs.Prelude.{◌≡◌, ℕ, ◌^◌, ◌<◌, Bool, List, ◌++◌, Option}
use Rattle.std.specs.Int.Digits.{number_from_digits}
use Rattle.cert_model.specs.Fields.{Number}
use Rattle.cert_model.specs.Octets.{sequence_octets, number_octets, optional_octets, flag_octets}
use Rattle.cert_model.specs.Range.{IfThere, IsNumber}

-- what a number that isn't negative counts: its octets as digits, the highest first (X.690, 8.3.3)
abbrev pub value_of : Number → ℕ
value_of n = number_from_digits 256 n

pub record BasicConstraints : Type 0 where
  pub ca : Bool
  pub path_len : Option Number

-- SEQUENCE { cA BOOLEAN DEFAULT FALSE, pathLenConstraint INTEGER (0..MAX) OPTIONAL }
unfoldable pub basic_constraints_octets : BasicConstraints → List ℕ
basic_constraints_octets b = sequence_octets (flag_octets b.ca ++ optional_octets number_octets b.path_len)

-- a path length in the fewest octets, below 2^32
pub record IsPathLength (n : Number) : Type 0 where
  pub number : IsNumber n
  pub small : value_of n < 2 ^ 32

-- the octets that these constraints write
pub record IsBasicConstraints (value : List ℕ) (b : BasicConstraints) : Type 0 where
  pub in_range : IfThere IsPathLength b.path_len
  pub spelled : value ≡ basic_constraints_octets b
