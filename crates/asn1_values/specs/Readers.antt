-- Functions that compute what the readers of values return. The meaning is in `Bits`, `Contents`
-- and in the integers of `asn1_traits`; laws tie each function to it.
use Rattle.std.specs.Prelude.{◌≡◌, ℕ, ℤ, pos, negsuc, ◌-◌, ◌%◌, ◌^◌, nat_lt, ◌==◌, if◌then◌else◌, List, [], ◌∷◌, length, slice_index, Result, Ok, Err}
use Rattle.asn1_core.specs.declared.error.Error.{Error}
use Rattle.asn1_core.specs.declared.error.Error.TheVariants as errors
use Rattle.asn1_core.specs.declared.error.DerConstraint.TheVariants as constraints
use Rattle.asn1_traits.specs.Integers.{twos_complement, size_of}

infixl 10 ◌>>=◌
abbrev pub ◌>>=◌ : {A B : Type 0} → Result A Error → (A → Result B Error) → Result B Error
Ok a >>= f = f a
Err e >>= f = Err e

-- what the reader returns is what the function computes, its values seen by a view
abbrev pub Gives : {V W : Type 0} → (V → W) → Result V Error → Result W Error → Type 0
Gives view (Ok v) read = read ≡ Ok (view v)
Gives view (Err e) read = read ≡ Err e

-- bits: so many unused ones of these octets
abbrev pub bits_of : ℕ → List ℕ → Result (ℕ × List ℕ) Error
bits_of unused [] = if unused == 0 then Ok (unused, []) else Err errors.InvalidLength
bits_of unused (octet ∷ octets) = Ok (unused, octet ∷ octets)

-- the bits of a content
unfoldable pub bits_at : List ℕ → Result (ℕ × List ℕ) Error
bits_at [] = Err errors.InvalidLength
bits_at (unused ∷ octets) = if nat_lt unused 8 then bits_of unused octets else Err errors.BerValueError

-- DER takes bits whose unused ones are 0
abbrev pub zero_unused : ℕ × List ℕ → Result (Unit {0}) Error
zero_unused p =
    if slice_index p.1 (length p.1 - 1) % 2 ^ p.0 == 0 then Ok tt else Err (errors.DerConstraintFailed constraints.UnusedBitsNotZero)

-- whether DER takes a content as bits, and why it doesn't
unfoldable pub check_bits : List ℕ → Result (Unit {0}) Error
check_bits content = bits_at content >>= zero_unused

-- a content of one octet or more
unfoldable pub some_octets : List ℕ → Result (List ℕ) Error
some_octets [] = Err errors.InvalidLength
some_octets (octet ∷ octets) = Ok (octet ∷ octets)

-- the number of a content, of any size
unfoldable pub number_at : List ℕ → Result ℤ Error
number_at content = some_octets content >>= λ octets. Ok (twos_complement octets)

abbrev pub not_negative : ℤ → Result ℕ Error
not_negative (pos n) = Ok n
not_negative (negsuc n) = Err errors.IntegerNegative

-- the number of a content without a sign, of any size
unfoldable pub natural_at : List ℕ → Result ℕ Error
natural_at content = number_at content >>= not_negative

-- of so many bits
abbrev pub unsigned_in : ℕ → ℕ → Result ℕ Error
unsigned_in bits n = if nat_lt n (2 ^ bits) then Ok n else Err errors.IntegerTooLarge

abbrev pub signed_in : ℕ → ℤ → Result ℤ Error
signed_in bits z = if nat_lt (size_of z) (2 ^ (bits - 1)) then Ok z else Err errors.IntegerTooLarge

-- the number of a content, without a sign and of so many bits
unfoldable pub unsigned_at : ℕ → List ℕ → Result ℕ Error
unsigned_at bits content = natural_at content >>= unsigned_in bits

-- the number of a content, of so many bits with its sign
unfoldable pub signed_at : ℕ → List ℕ → Result ℤ Error
signed_at bits content = number_at content >>= signed_in bits

-- the number of an enumerated value: 32 bits without a sign
abbrev pub enumerated_of : ℤ → Result ℕ Error
enumerated_of z = not_negative z >>= unsigned_in 32
