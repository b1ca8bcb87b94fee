-- Numbers as digits in octets: a tag number in base 128 (X.690, 8.1.2.4.2), a length in base 256
-- (X.690, 8.1.3.5). `digits_of b n` of the standard library are the fewest digits of n in base b,
-- the highest first, and none for 0.
use Rattle.std.specs.Prelude.{◌≡◌, ◌≢◌, ℕ, ◌+◌, List, [], ◌∷◌}
use Rattle.std.specs.Int.Digits.{number_from_digits, AllBelowBase}

-- these digits of the base, one or more, make n; zeros may lead
pub record AreDigits (b : ℕ) (ds : List ℕ) (n : ℕ) : Type 0 where
  pub some : ds ≢ []
  pub below : AllBelowBase b ds
  pub value : number_from_digits b ds ≡ n

-- digits below 128 as octets: bit 8 is set in each but the last (X.690, 8.1.2.4.2, a and b)
abbrev pub continued : List ℕ → List ℕ
continued [] = []
continued (d ∷ []) = d ∷ []
continued (d ∷ e ∷ ds) = (128 + d) ∷ continued (e ∷ ds)
