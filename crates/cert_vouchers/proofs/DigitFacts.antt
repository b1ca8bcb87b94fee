-- Digests from hex digits.
use Rattle.std.proofs.Common.{◌≡◌, sym, ap, arith, ℕ, zero, suc, ◌<◌, ◌≤◌, ◌/◌, ◌%◌, ◌==◌, nat_lt, Bool, true, ◌&&◌, Option, Some, None, List, ◌∷◌, ◌++◌, replicate, length, slice_index_or, Result, Ok, Err, inl, inr, refl}
use Rattle.std.proofs.lemmas.Bool.{and_parts, cases_lt, eqb-true, ltb-true}
use Rattle.hex.specs.Hex.{decode_sized, decode_pairs, hex_digit_value}
use Rattle.hex.specs.declared.error.FromHexError.{FromHexError}
use Rattle.hex.proofs.Pairs.{decode_sized-pairs}

pub sized : (s : List ℕ) → length s ≡ 64 → decode_sized s 32 ≡ decode_pairs 0 s
sized s len = decode_sized-pairs s 32 (ap (λ n. n % 2) len) (ap (λ n. n / 2) len)

pub one_value : (x y : List ℕ) → ◌≡◌ {A = Result (List ℕ) FromHexError} (Ok x) (Ok y) → x ≡ y
one_value x y e = cc

pub not_both : (r : Result (List ℕ) FromHexError) (x : List ℕ) (e : FromHexError) → r ≡ Ok x → r ≡ Err e → ⊥
not_both r x e is other = cc

-- a number is the value of a digit, or greater than each if there is none
abbrev fits : ℕ → Option ℕ → Bool
fits v None = nat_lt 15 v
fits v (Some w) = (v == w) && nat_lt v 16

-- the first n places of a table have the values of these octets
abbrev pub all_fit : List ℕ → ℕ → Bool
all_fit t zero = true
all_fit t (suc n) = fits (slice_index_or t n 0) (hex_digit_value n) && all_fit t n

all_fit-at : (t : List ℕ) (n k : ℕ) → all_fit t n ≡ true → k < n → fits (slice_index_or t k 0) (hex_digit_value k) ≡ true
all_fit-at t zero k h lt = absurd (omega arith)
all_fit-at t (suc n) k h lt =
    let parts = and_parts (fits (slice_index_or t n 0) (hex_digit_value n)) (all_fit t n) h in
    elim (cases_lt k n) [
      | inl below ↦ all_fit-at t n k parts.1 below
      | inr top ↦
          let e : k ≡ n = omega arith in
          rw e parts.0
    ]

some_fits : (v : ℕ) (o : Option ℕ) → fits v o ≡ true → v ≤ 15 → o ≡ Some v
some_fits v None t h = let more = ltb-true 15 v t in absurd (omega arith)
some_fits v (Some w) t h = ap Some (sym (eqb-true v w (and_parts (v == w) (nat_lt v 16) t).0))

none_fits : (v : ℕ) (o : Option ℕ) → fits v o ≡ true → 15 < v → o ≡ None
none_fits v None t h = refl
none_fits v (Some w) t h = let less = ltb-true v 16 (and_parts (v == w) (nat_lt v 16) t).1 in absurd (omega arith)

-- the value of each octet
abbrev pub table : List ℕ
table = replicate 48 16 ++ (0 ∷ 1 ∷ 2 ∷ 3 ∷ 4 ∷ 5 ∷ 6 ∷ 7 ∷ 8 ∷ 9 ∷ replicate 7 16) ++ (10 ∷ 11 ∷ 12 ∷ 13 ∷ 14 ∷ 15 ∷ replicate 26 16) ++ (10 ∷ 11 ∷ 12 ∷ 13 ∷ 14 ∷ 15 ∷ replicate 153 16)

pub there : (t : List ℕ) (c : ℕ) → all_fit t 256 ≡ true → c < 256 → slice_index_or t c 0 ≤ 15 → hex_digit_value c ≡ Some (slice_index_or t c 0)
there t c h lt small = some_fits _ _ (all_fit-at t 256 c h lt) small

pub none : (t : List ℕ) (c : ℕ) → all_fit t 256 ≡ true → c < 256 → 15 < slice_index_or t c 0 → hex_digit_value c ≡ None
none t c h lt large = none_fits _ _ (all_fit-at t 256 c h lt) large
