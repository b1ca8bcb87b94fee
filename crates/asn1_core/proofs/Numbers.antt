-- Digits and the numbers that they stand for.
use Rattle.std.proofs.Common.{◌≡◌, ◌≢◌, ℕ, zero, suc, ◌+◌, ◌*◌, ◌/◌, ◌%◌, ◌<◌, ◌≤◌, length, List, [], ◌∷◌, ◌++◌, get_or, take, refl, sym, ap, ◌∙◌, arith, append_assoc, append-nil, mul-le-mul_left}
use Rattle.std.specs.Int.Digits.{digits_of, number_from_digits, number_from_digits_after, AllBelowBase}
use Rattle.std.proofs.lemmas.Int.Digits.{digits_of_step, first_digits_of, all_below_base_digits_of, number_digits_of}
use Rattle.std.proofs.lemmas.Nat.{div-mul-add, mod-mul-add}
use Rattle.std.proofs.lemmas.List.Elements.{recursion_from_All, All-from_get_or}
use Rattle.asn1_core.specs.Digits.{AreDigits, continued}

-- digits after those of n, which isn't 0, are the digits of the number that they make
pub digits_after : (b n : ℕ) (ds : List ℕ) → 2 ≤ b → 0 < n → AllBelowBase b ds → digits_of b (number_from_digits_after b n ds) ≡ digits_of b n ++ ds
digits_after b n [] two pos below = sym (append-nil (digits_of b n))
digits_after b n (d ∷ ds) two pos below =
    let grows : 0 < n * b + d = omega (arith, mul-le-mul_left n two) in
    let rest = digits_after b (n * b + d) ds two grows below.1 in
    let step = digits_of_step b (n * b + d) two grows in
    let high : (n * b + d) / b ≡ n = div-mul-add n b d below.0 in
    let low : (n * b + d) % b ≡ d = mod-mul-add n b d below.0 in
    rest ∙ rw (step, high, low) (append_assoc (digits_of b n) (d ∷ []) ds)

-- digits whose first isn't 0 are the fewest of their number
pub digits_shortest : (b d : ℕ) (ds : List ℕ) → 2 ≤ b → 0 < d → AllBelowBase b (d ∷ ds) → digits_of b (number_from_digits b (d ∷ ds)) ≡ d ∷ ds
digits_shortest b d ds two pos below =
    let grows : 0 < 0 * b + d = omega arith in
    let rest = digits_after b (0 * b + d) ds two grows below.1 in
    let step = digits_of_step b (0 * b + d) two grows in
    let high : (0 * b + d) / b ≡ 0 = div-mul-add 0 b d below.0 in
    let low : (0 * b + d) % b ≡ d = mod-mul-add 0 b d below.0 in
    rest ∙ rw (step, high, low) refl

-- a number above 0 has a digit
pub digits_some : (b n : ℕ) → 2 ≤ b → 0 < n → digits_of b n ≢ []
digits_some b n two pos empty =
    let none : get_or (digits_of b n) 0 0 ≡ 0 = ap (λ ds. get_or ds 0 0) empty in
    omega (arith, first_digits_of b n two pos)

-- the fewest digits are digits
pub fewest_are : (b n : ℕ) → 2 ≤ b → 0 < n → AreDigits b (digits_of b n) n
fewest_are b n two pos = record { some = digits_some b n two pos; below = all_below_base_digits_of b n two; value = number_digits_of b n two }

-- one more digit in front of others
pub continued_more : (d : ℕ) (ds : List ℕ) → ds ≢ [] → continued (d ∷ ds) ≡ (128 + d) ∷ continued ds
continued_more d [] some = absurd (some refl)
continued_more d (e ∷ ds) some = refl

-- a front of octets is of octets
pub take_below : (b n : ℕ) (xs : List ℕ) → AllBelowBase b xs → AllBelowBase b (take n xs)
take_below b zero xs below = tt
take_below b (suc n) [] below = tt
take_below b (suc n) (x ∷ xs) below = (below.0, take_below b n xs below.1)

-- and so is what is left of them
pub append_below : (b : ℕ) (xs ys : List ℕ) → AllBelowBase b (xs ++ ys) → AllBelowBase b ys
append_below b [] ys below = below
append_below b (x ∷ xs) ys below = append_below b xs ys below.1

-- a list of length 0
pub empty_of : (xs : List ℕ) → length xs ≡ 0 → xs ≡ []
empty_of [] none = refl
empty_of (x ∷ xs) none = absurd (omega arith)

-- the numbers of a slice of octets are octets
pub octets_below : (xs : List ℕ) → ((k : ℕ) → get_or xs k 0 < 256) → AllBelowBase 256 xs
octets_below xs each = recursion_from_All (λ x. x < 256) xs (All-from_get_or (λ x. x < 256) xs 0 (λ k within. each k))
