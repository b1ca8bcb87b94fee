-- Why two's complement octets aren't read as a machine integer.
use Rattle.std.specs.Prelude.{◌≡◌, ◌^◌, ◌≤◌, ◌⊎◌, Bool, ℤ, ℕ, pos, negsuc, nat_le, List, [], slice_index}
use Rattle.asn1_core.specs.declared.error.Error.{Error}
use Rattle.asn1_core.specs.declared.error.Error.TheVariants as errors
use Rattle.asn1_traits.specs.Integers.{twos_complement, IsSigned}

-- the first bit; of no octets there is none
abbrev pub first_bit : List ℕ → Bool
first_bit octets = nat_le 128 (slice_index octets 0)

abbrev pub IsNegative : ℤ → Type 0
IsNegative (pos n) = ⊥
IsNegative (negsuc n) = Unit {0}

-- the number isn't negative, and takes more bits than these
abbrev pub IsTooLarge : ℕ → ℤ → Type 0
IsTooLarge bits (pos n) = 2 ^ bits ≤ n
IsTooLarge bits (negsuc n) = ⊥

-- there is no octet, or the number is negative
abbrev pub RefusesNatural : List ℕ → Error → Type 0
RefusesNatural content e =
    ((e ≡ errors.InvalidLength) × (content ≡ []))
    ⊎ ((e ≡ errors.IntegerNegative) × IsNegative (twos_complement content))

-- there is no octet, or the number is negative or takes more bits than these
abbrev pub RefusesUnsigned : ℕ → List ℕ → Error → Type 0
RefusesUnsigned bits content e =
    RefusesNatural content e ⊎ ((e ≡ errors.IntegerTooLarge) × IsTooLarge bits (twos_complement content))

-- there is no octet, or the number takes more bits than these, the sign counted
abbrev pub RefusesSigned : ℕ → List ℕ → Error → Type 0
RefusesSigned bits content e =
    ((e ≡ errors.InvalidLength) × (content ≡ []))
    ⊎ ((e ≡ errors.IntegerTooLarge) × (IsSigned bits (twos_complement content) → ⊥))
