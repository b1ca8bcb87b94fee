-- The number of two's complement octets, by its sign and its size.
use Rattle.std.proofs.Common.{◌≡◌, ◌≢◌, ◌∙◌, refl, sym, subst, ℕ, ℤ, pos, negsuc, ◌^◌, ◌≤◌, Bool, true, false, if◌then◌else◌, List, [], ◌∷◌}
use Rattle.std.specs.Prelude.{IsTrue, ◌↔◌}
use Rattle.std.specs.Int.Digits.{number_from_digits}
use Rattle.asn1_traits.specs.Integers.{unsigned_octets, twos_complement, SpellsInteger, size_of}
use Rattle.asn1_traits.proofs.Wholes.{spelled}
use Rattle.asn1_values.specs.Numbers.{first_bit, IsNegative, IsTooLarge}

abbrev pub signed_of : Bool → ℕ → ℤ
signed_of b n = if b then negsuc n else pos n

-- the size of the number, or one less than it
abbrev pub size_in : List ℕ → ℕ
size_in octets = number_from_digits 256 (unsigned_octets (first_bit octets) octets)

pub spells_signed : (octets : List ℕ) → octets ≢ [] → SpellsInteger octets (signed_of (first_bit octets) (size_in octets))
spells_signed [] some = absurd (some refl)
spells_signed (x ∷ xs) some = spelled (x ∷ xs) x xs (size_in (x ∷ xs)) refl refl

pub twos_signed : (octets : List ℕ) → twos_complement octets ≡ signed_of (first_bit octets) (size_in octets)
unfolding twos_complement
twos_signed [] = refl
twos_signed (x ∷ xs) = (spells_signed (x ∷ xs) (λ e. cc e)).value

-- of this sign and size
pub spells_of : (octets : List ℕ) (b : Bool) (n : ℕ) → octets ≢ [] → b ≡ first_bit octets → n ≡ number_from_digits 256 (unsigned_octets b octets)
    → SpellsInteger octets (signed_of b n)
spells_of octets b n some sign size = rw (size, sign) (spells_signed octets some)

negative_is : (b : Bool) (n : ℕ) → (IsTrue b ↔ IsNegative (signed_of b n))
negative_is true n = (λ h. tt, λ h. refl)
negative_is false n = (λ h. cc h, λ h. absurd h)

pub sign_is : (octets : List ℕ) → (IsTrue (first_bit octets) ↔ IsNegative (twos_complement octets))
sign_is octets = rw (twos_signed octets) (negative_is (first_bit octets) (size_in octets))

-- a number that isn't negative and too large
pub too_large : (octets : List ℕ) (bits : ℕ) → first_bit octets ≡ false → 2 ^ bits ≤ number_from_digits 256 octets → IsTooLarge bits (twos_complement octets)
too_large octets bits sign large =
    let T : Bool → Type 0 = λ b. IsTooLarge bits (signed_of b (number_from_digits 256 (unsigned_octets b octets))) in
    rw (twos_signed octets) (subst T (sym sign) large)

pub size_of_signed : (b : Bool) (n : ℕ) → size_of (signed_of b n) ≡ n
size_of_signed true n = refl
size_of_signed false n = refl

pub size_is : (octets : List ℕ) (b : Bool) → b ≡ first_bit octets → size_of (twos_complement octets) ≡ number_from_digits 256 (unsigned_octets b octets)
size_is octets b sign = rw (twos_signed octets, sign) (size_of_signed (first_bit octets) (size_in octets))

pub not_negative : (octets : List ℕ) (b : Bool) → (IsTrue b ↔ IsNegative (twos_complement octets)) → b ≡ false → false ≡ first_bit octets
not_negative octets b is e = by_bit (first_bit octets) (sign_is octets)
  where
    by_bit : (s : Bool) → (IsTrue s ↔ IsNegative (twos_complement octets)) → false ≡ s
    by_bit false h = refl
    by_bit true h = sym e ∙ is.1 (h.0 refl)
