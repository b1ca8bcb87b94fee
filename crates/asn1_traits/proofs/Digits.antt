-- Digits of base 256, the last one apart.
use Rattle.std.proofs.Common.{◌≡◌, ◌∙◌, ap, sym, refl, ℕ, zero, suc, ℤ, pos, negsuc, ◌+◌, ◌-◌, ◌/◌, ◌%◌, ◌<◌, ◌≤◌, ◌^◌, nat_lt, Bool, true, false, if◌then◌else◌, List, [], ◌∷◌, ◌++◌, length, arith, append_assoc, length-append, lt-ltb, le-ltb}
use Rattle.std.specs.Int.Digits.{digits_of, number_from_digits}
use Rattle.std.proofs.lemmas.Int.Digits.{digits_of_step, length-digits_of-le, number_digits_of}
use Rattle.std.proofs.lemmas.List.{length-map}
use Rattle.asn1_traits.specs.Integers.{with_sign_bit, integer_octets}

-- one more octet at the end of what was pushed
pub pushed : (old mid new front all : List ℕ) (last : ℕ) → mid ≡ old ++ front → all ≡ front ++ last ∷ [] → new ≡ mid ++ last ∷ [] → new ≡ old ++ all
pushed old mid new front all last p q e = e ∙ ap (λ z. z ++ last ∷ []) p ∙ append_assoc old front (last ∷ []) ∙ ap (λ z. old ++ z) (sym q)

pub digits_longer : (b n : ℕ) → 2 ≤ b → 0 < n → length (digits_of b n) ≡ length (digits_of b (n / b)) + 1
digits_longer b n p q = ap length (digits_of_step b n p q) ∙ length-append (digits_of b (n / b)) (n % b ∷ [])

pub few_digits : (n : ℕ) → n < 2 ^ 128 → length (digits_of 256 n) ≤ 16
few_digits n p = length-digits_of-le 256 16 n (omega arith) p

signed_by : (b : Bool) (d x : ℕ) (ds : List ℕ) → (if b then d ∷ (ds ++ x ∷ []) else 0 ∷ d ∷ (ds ++ x ∷ [])) ≡ (if b then d ∷ ds else 0 ∷ d ∷ ds) ++ x ∷ []
signed_by true d x ds = refl
signed_by false d x ds = refl

signed_last : (ds : List ℕ) (x : ℕ) → (ds ≡ [] → 128 ≤ x) → with_sign_bit (ds ++ x ∷ []) ≡ with_sign_bit ds ++ x ∷ []
signed_last [] x high = let e : nat_lt x 128 ≡ false = le-ltb x 128 (high refl) in rw e refl
signed_last (d ∷ ds) x high = signed_by (nat_lt d 128) d x ds

-- numbers with no digits
no_digits : (n : ℕ) → digits_of 256 n ≡ [] → n ≡ 0
no_digits n e = sym (number_digits_of 256 n (omega arith)) ∙ ap (number_from_digits 256) e

-- the last octet apart, of a number of more than seven bits
pub signed_step : (n : ℕ) → 128 ≤ n → with_sign_bit (digits_of 256 n) ≡ with_sign_bit (digits_of 256 (n / 256)) ++ (n % 256 ∷ [])
signed_step n p =
    ap with_sign_bit (digits_of_step 256 n (omega arith) (omega (arith, p)))
    ∙ signed_last (digits_of 256 (n / 256)) (n % 256) (λ e. let none : n / 256 ≡ 0 = no_digits (n / 256) e in omega (arith, p, none))

-- one octet, of seven bits
pub signed_small : (n : ℕ) → n < 128 → with_sign_bit (digits_of 256 n) ≡ n ∷ []
signed_small zero p = refl
signed_small (suc n) p =
    let none : suc n / 256 ≡ 0 = omega (arith, p) in
    let last : suc n % 256 ≡ suc n = omega (arith, p) in
    let e : nat_lt (suc n) 128 ≡ true = lt-ltb (suc n) 128 p in
    ap with_sign_bit (digits_of_step 256 (suc n) (omega arith) (omega arith)) ∙ ap (λ z. with_sign_bit (digits_of 256 z ++ (suc n % 256 ∷ []))) none ∙ ap (λ z. with_sign_bit (z ∷ [])) last ∙ rw e refl

-- the octets are counted one by one
pub signed_longer : (n : ℕ) → 128 ≤ n → length (with_sign_bit (digits_of 256 n)) ≡ length (with_sign_bit (digits_of 256 (n / 256))) + 1
signed_longer n p = ap length (signed_step n p) ∙ length-append (with_sign_bit (digits_of 256 (n / 256))) (n % 256 ∷ [])

bit_adds : (b : Bool) (d : ℕ) (ds : List ℕ) → length (if b then d ∷ ds else 0 ∷ d ∷ ds) ≤ length (d ∷ ds) + 1
bit_adds true d ds = omega arith
bit_adds false d ds = omega arith

sign_adds : (ds : List ℕ) → length (with_sign_bit ds) ≤ length ds + 1
sign_adds [] = omega arith
sign_adds (d ∷ ds) = bit_adds (nat_lt d 128) d ds

pub few_signed : (n : ℕ) → n < 2 ^ 128 → length (with_sign_bit (digits_of 256 n)) ≤ 17
few_signed n p = omega (arith, sign_adds (digits_of 256 n), few_digits n p)

-- the content of an integer has as many octets as its size has
pub whole_length : (negative : Bool) (size : ℕ) (z : ℤ) → (if negative then negsuc size else pos size) ≡ z → length (with_sign_bit (digits_of 256 size)) ≡ length (integer_octets z)
unfolding integer_octets
whole_length true size z e = sym (length-map (with_sign_bit (digits_of 256 size)) (λ octet. 255 - octet)) ∙ ap (λ x. length (integer_octets x)) e
whole_length false size z e = ap (λ x. length (integer_octets x)) e

-- room for one more octet after digits
pub room_after : (old new ds : List ℕ) → new ≡ old ++ ds → length old + (length ds + 1) ≤ 20 → length new < 20
room_after old new ds e room = omega (arith, ap length e, length-append old ds, room)
