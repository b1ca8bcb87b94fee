-- What the readers of machine integers return, as functions of a content. The meaning isn't here: a
-- law ties them to what the content means.
use Rattle.std.specs.Prelude.{◌≡◌, ℕ, ◌-◌, ◌^◌, ◌==◌, ◌&&◌, nat_lt, not, Bool, true, false, ℤ, pos, negsuc, if◌then◌else◌, List, [], ◌∷◌, Option, Some, None, Result, Ok, Err}
use Rattle.asn1_core.specs.declared.error.Error.{Error}
use Rattle.asn1_traits.specs.Integers.{twos_complement, size_of}

-- integers of so many bits, without and with a sign
abbrev pub is_unsigned : ℕ → ℤ → Bool
is_unsigned bits (pos n) = nat_lt n (2 ^ bits)
is_unsigned bits (negsuc n) = false

abbrev pub is_signed : ℕ → ℤ → Bool
is_signed bits z = nat_lt (size_of z) (2 ^ (bits - 1))

-- the number, if it fits
abbrev pub fitting : (ℤ → Bool) → ℤ → Option ℤ
fitting fits z = if fits z then Some z else None

-- the number of a content, if there is one and it fits
abbrev pub integer_at : (ℤ → Bool) → List ℕ → Option ℤ
integer_at fits [] = None
integer_at fits (octet ∷ octets) = fitting fits (twos_complement (octet ∷ octets))

-- one octet at least, and no octet that is redundant
abbrev pub is_shortest : List ℕ → Bool
is_shortest [] = false
is_shortest (octet ∷ []) = true
is_shortest (octet ∷ next ∷ octets) = not ((octet == 0) && nat_lt next 128) && not ((octet == 255) && not (nat_lt next 128))

-- a reader returns what the function computes; which error it returns if there is no number isn't
-- said
abbrev pub GivesInteger : {V : Type 0} → (V → ℤ) → Result V Error → Option ℤ → Type 0
GivesInteger number (Ok v) read = read ≡ Some (number v)
GivesInteger number (Err e) read = read ≡ None
