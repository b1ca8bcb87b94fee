-- Shortest two's complement octets are those that are written of their number.
use Rattle.std.proofs.Common.{arith, ◌≡◌, ◌∙◌, refl, sym, ap, ℕ, ◌-◌, ◌<◌, nat_lt, true, false, List, [], ◌∷◌, lt-ltb, le-ltb, inl, inr}
use Rattle.std.proofs.lemmas.Bool.{cases_lt}
use Rattle.std.specs.Int.Digits.{number_from_digits, digits_of, AllBelowBase}
use Rattle.asn1_traits.specs.Integers.{turned, twos_complement, IsShortest, with_sign_bit, integer_octets}
use Rattle.asn1_unsigned.proofs.Compared.{digits_of_octets}

-- octets whose first bit is 0 are those of their number
low_spelled : (x : ℕ) (xs : List ℕ) → AllBelowBase 256 (x ∷ xs) → IsShortest (x ∷ xs) → x < 128
    → with_sign_bit (digits_of 256 (number_from_digits 256 (x ∷ xs))) ≡ x ∷ xs
low_spelled x xs below strict low = elim (cases_lt 0 x) [
  | inl some ↦
      let digits = digits_of_octets (x ∷ xs) below some in
      let bit : nat_lt x 128 ≡ true = lt-ltb x 128 low in
      ap with_sign_bit digits ∙ rw bit refl
  | inr none ↦ zero_first x xs (omega (arith, none)) below strict
]
  where
    zero_first : (x : ℕ) (xs : List ℕ) → x ≡ 0 → AllBelowBase 256 (x ∷ xs) → IsShortest (x ∷ xs)
        → with_sign_bit (digits_of 256 (number_from_digits 256 (x ∷ xs))) ≡ x ∷ xs
    zero_first x [] zero below strict = rw zero refl
    zero_first x (y ∷ ys) zero below strict = elim (cases_lt y 128) [
      | inl low ↦ absurd (strict.0 (zero, low))
      | inr high ↦
          let digits = digits_of_octets (y ∷ ys) below.1 (omega (arith, high)) in
          let bit : nat_lt y 128 ≡ false = le-ltb y 128 high in
          rw zero (ap with_sign_bit digits ∙ rw bit refl)
    ]

turned_twice : (xs : List ℕ) → AllBelowBase 256 xs → turned (turned xs) ≡ xs
turned_twice [] below = refl
turned_twice (x ∷ xs) below =
    let same : 255 - (255 - x) ≡ x = omega (arith, below.0) in
    ap (λ z. z ∷ turned (turned xs)) same ∙ ap (λ z. x ∷ z) (turned_twice xs below.1)

turned_below : (xs : List ℕ) → AllBelowBase 256 (turned xs)
turned_below [] = tt
turned_below (x ∷ xs) = (omega arith, turned_below xs)

turned_shortest : (xs : List ℕ) → AllBelowBase 256 xs → IsShortest xs → IsShortest (turned xs)
turned_shortest [] below s = s
turned_shortest (x ∷ []) below s = tt
turned_shortest (x ∷ y ∷ xs) below s =
    (λ h. s.1 (omega (arith, below.0, h.0), omega (arith, below.1.0, h.1)), λ h. s.0 (omega (arith, below.0, h.0), omega (arith, below.1.0, h.1)))

pub spelled_once : (content : List ℕ) → AllBelowBase 256 content → IsShortest content → content ≡ integer_octets (twos_complement content)
unfolding twos_complement integer_octets
spelled_once [] below strict = absurd strict
spelled_once (x ∷ xs) below strict = elim (cases_lt x 128) [
  | inl low ↦ let bit : nat_lt x 128 ≡ true = lt-ltb x 128 low in rw bit (sym (low_spelled x xs below strict low))
  | inr high ↦
      let bit : nat_lt x 128 ≡ false = le-ltb x 128 high in
      let written = low_spelled (255 - x) (turned xs) (turned_below (x ∷ xs)) (turned_shortest (x ∷ xs) below strict) (omega (arith, high)) in
      rw bit (sym (ap turned written ∙ turned_twice (x ∷ xs) below))
]
