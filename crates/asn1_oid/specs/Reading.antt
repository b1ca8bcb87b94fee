-- The readers as functions on lists of octets, octet by octet. The meaning isn't here: the lemmas
-- of proofs/ show that they undo the words of `Identifier`.
use Rattle.std.specs.List.{list_all}
use Rattle.std.specs.Prelude.{◌≡◌, ℕ, ◌+◌, ◌-◌, ◌*◌, ◌%◌, ◌^◌, ◌==◌, ◌&&◌, ◌||◌, nat_lt, nat_le, not, Bool, true, false, if◌then◌else◌, Option, option_to_list, List, [], ◌∷◌, ◌++◌, length}

-- the number so far, with the low seven bits of the octet after it
abbrev pub pushed : ℕ → ℕ → ℕ
pushed n octet = n * 128 + octet % 128

-- what is left is strict, within a subidentifier or not
unfoldable pub is_strict_after : Bool → List ℕ → Bool
is_strict_after within [] = not within
is_strict_after within (octet ∷ rest) = (within || not (octet == 128)) && is_strict_after (nat_le 128 octet) rest

-- the content of a strict object identifier
abbrev pub is_strict : List ℕ → Bool
is_strict octets = nat_lt 0 (length octets) && is_strict_after false octets

-- what is left is strict and no subidentifier passes 64 bits; n is the number so far, not 0 within
-- a subidentifier
unfoldable pub is_small_after : ℕ → List ℕ → Bool
is_small_after n [] = n == 0
is_small_after n (octet ∷ rest) =
    nat_lt (pushed n octet) (2 ^ 64)
    && (if nat_lt octet 128 then is_small_after 0 rest else (nat_lt 0 (pushed n octet) && is_small_after (pushed n octet) rest))

-- the numbers that end in what is left; n is the number so far
unfoldable pub numbers_after : ℕ → List ℕ → List ℕ
numbers_after n [] = []
numbers_after n (octet ∷ rest) =
    if nat_lt octet 128 then pushed n octet ∷ numbers_after 0 rest else numbers_after (pushed n octet) rest

-- the two components of a first subidentifier, then the others
abbrev pub root_of : ℕ → ℕ
root_of n = if nat_lt n 40 then 0 else (if nat_lt n 80 then 1 else 2)

abbrev pub split_first : List ℕ → List ℕ
split_first [] = []
split_first (n ∷ ns) = root_of n ∷ (n - 40 * root_of n) ∷ ns

abbrev pub components_in : List ℕ → List ℕ
components_in octets = split_first (numbers_after 0 octets)

-- what an iterator has left: two components that wait, then the numbers of the octets
abbrev pub components_left : Option ℕ → Option ℕ → List ℕ → List ℕ
components_left first second rest = option_to_list first ++ (option_to_list second ++ numbers_after 0 rest)

-- the first number of the octets is read, and `rest` follows it
pub record SplitsFirst (octets : List ℕ) (number : ℕ) (rest : List ℕ) : Type 0 where
  pub numbers : numbers_after 0 octets ≡ number ∷ numbers_after 0 rest
  pub small : is_small_after 0 rest ≡ true

-- octets that are strict, with numbers of 64 bits, and not too many to be counted
abbrev pub is_readable : List ℕ → Bool
is_readable octets =
    list_all (λ octet. nat_lt octet 256) octets
    && (nat_lt 0 (length octets) && is_small_after 0 octets && nat_lt (length (components_in octets)) (2 ^ 64))
