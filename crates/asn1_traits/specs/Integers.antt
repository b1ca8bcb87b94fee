-- Integers: two's complement in the fewest octets, the highest first (X.690, 8.3).
-- `number_from_digits 256 ds` is the number that octets make without a sign, `digits_of 256 n` the
-- fewest octets of n.
use Rattle.std.specs.Prelude.{◌≡◌, ◌≢◌, ◌-◌, ◌^◌, ◌<◌, ◌≤◌, Bool, ℕ, ℤ, pos, negsuc, nat_lt, if◌then◌else◌, List, [], ◌∷◌, map}
use Rattle.std.specs.Int.Digits.{number_from_digits, digits_of}

-- each bit turned
abbrev pub turned : List ℕ → List ℕ
turned octets = map (λ octet. 255 - octet) octets

-- the octets, or turned if the number is negative
abbrev pub unsigned_octets : Bool → List ℕ → List ℕ
unsigned_octets negative octets = if negative then turned octets else octets

-- the first bit is the sign (X.690, 8.3.3): if it is set the number is -1 less that of the
-- turned bits
unfoldable pub twos_complement : List ℕ → ℤ
twos_complement [] = pos 0
twos_complement (octet ∷ octets) =
    if nat_lt octet 128 then pos (number_from_digits 256 (octet ∷ octets)) else negsuc (number_from_digits 256 (turned (octet ∷ octets)))

-- one octet at least, the first nine bits neither all 0 nor all 1 (X.690, 8.3.1 and 8.3.2)
abbrev pub IsShortest : List ℕ → Type 0
IsShortest [] = ⊥
IsShortest (octet ∷ []) = Unit {0}
IsShortest (octet ∷ next ∷ octets) = ((octet ≡ 0) × (next < 128) → ⊥) × ((octet ≡ 255) × (128 ≤ next) → ⊥)

-- digits of a number that isn't negative, with 00 before them if the first bit is 1, and one octet
-- at least
abbrev pub with_sign_bit : List ℕ → List ℕ
with_sign_bit [] = 0 ∷ []
with_sign_bit (d ∷ ds) = if nat_lt d 128 then d ∷ ds else 0 ∷ d ∷ ds

-- the content of an integer in DER
unfoldable pub integer_octets : ℤ → List ℕ
integer_octets (pos n) = with_sign_bit (digits_of 256 n)
integer_octets (negsuc n) = turned (with_sign_bit (digits_of 256 n))

-- one octet or more that spell the number
pub record SpellsInteger (content : List ℕ) (z : ℤ) : Type 0 where
  pub some : content ≢ []
  pub value : twos_complement content ≡ z

-- the number's size: itself, or -1 less it
abbrev pub size_of : ℤ → ℕ
size_of (pos n) = n
size_of (negsuc n) = n

-- integers of so many bits, without and with a sign
abbrev pub IsUnsigned : ℕ → ℤ → Type 0
IsUnsigned bits (pos n) = n < 2 ^ bits
IsUnsigned bits (negsuc n) = ⊥

abbrev pub IsSigned : ℕ → ℤ → Type 0
IsSigned bits z = size_of z < 2 ^ (bits - 1)
