-- The tests of shortest form, against the strict spellings.
use Rattle.std.proofs.Common.{◌≡◌, ◌≢◌, ℕ, zero, suc, ◌+◌, ◌%◌, ◌<◌, ◌≤◌, ◌==◌, ◌&&◌, ◌||◌, nat_lt, not, Bool, true, false, List, [], ◌∷◌, ◌++◌, length, inl, inr, refl, subst, arith, get_or, lt-ltb, le-ltb, ltb-true, ne_eqb}
use Rattle.std.proofs.lemmas.Bool.{cases_lt, or_cases, and_parts, or_right, not-true, eqb-false}
use Rattle.std.specs.Int.Digits.{digits_of}
use Rattle.std.proofs.lemmas.Int.Digits.{first_digits_of}
use Rattle.asn1_core.specs.Digits.{AreDigits, continued}
use Rattle.asn1_core.specs.Strict.{lead, strict_identifier, strict_length}
use Rattle.asn1_core.specs.Reading.{is_short_identifier, is_short_length}
use Rattle.asn1_core.proofs.Numbers.{digits_shortest, fewest_are}
use Rattle.asn1_core.proofs.Identities.{lead_low}

-- what a test for a large number and a next octet says
large_and_next : (first low n bar next zero_digit : ℕ) → bar ≤ first → (nat_lt first bar || (nat_lt low n && not (next == zero_digit))) ≡ true → (low < n) × (next ≢ zero_digit)
large_and_next first low n bar next zero_digit high test =
    elim (or_cases (nat_lt first bar) (nat_lt low n && not (next == zero_digit)) test) [
      | inl less ↦ let l = ltb-true first bar less in absurd (omega arith)
      | inr both ↦
          let parts = and_parts (nat_lt low n) (not (next == zero_digit)) both in
          (ltb-true low n parts.0, eqb-false next zero_digit (not-true (next == zero_digit) parts.1))
    ]

-- and what makes it true
passes : (first low n bar next zero_digit : ℕ) → low < n → next ≢ zero_digit → (nat_lt first bar || (nat_lt low n && not (next == zero_digit))) ≡ true
passes first low n bar next zero_digit large other =
    let more : nat_lt low n ≡ true = lt-ltb low n large in
    let differs : (next == zero_digit) ≡ false = ne_eqb next zero_digit other in
    or_right (nat_lt first bar) (nat_lt low n && not (next == zero_digit)) (rw (more, differs) refl)

above_zero : (d : ℕ) → 128 + d ≢ 128 → 0 < d
above_zero zero differs = absurd (differs refl)
above_zero (suc d) differs = omega arith

nonzero : (d : ℕ) → d ≢ 0 → 0 < d
nonzero zero differs = absurd (differs refl)
nonzero (suc d) differs = omega arith

low_is_short : (class : ℕ) (constructed : Bool) (tag : ℕ) (after : List ℕ) → tag < 31 → is_short_identifier (lead class constructed tag ∷ after) tag ≡ true
low_is_short class constructed tag [] low = refl
low_is_short class constructed tag (next ∷ after) low =
    let first = lead_low class constructed tag (omega arith) in
    let short : nat_lt tag 31 ≡ true = lt-ltb tag 31 low in
    rw (first, short) refl

high_is_short : (class : ℕ) (constructed : Bool) (tag : ℕ) (ds after : List ℕ) → 30 < tag → AreDigits 128 ds tag → 0 < get_or ds 0 0
    → is_short_identifier ((lead class constructed 31 ∷ continued ds) ++ after) tag ≡ true
high_is_short class constructed tag [] after high are pos = absurd (are.some refl)
high_is_short class constructed tag (d ∷ []) after high are pos =
    let below = are.below.0 in
    passes (lead class constructed 31 % 32) 30 tag 31 d 128 high (λ e. omega arith)
high_is_short class constructed tag (d ∷ e ∷ ds) after high are pos =
    passes (lead class constructed 31 % 32) 30 tag 31 (128 + d) 128 high (λ same. omega arith)

low_length_is_short : (n : ℕ) (rest : List ℕ) → n < 128 → is_short_length (n ∷ rest) n ≡ true
low_length_is_short n [] low = refl
low_length_is_short n (next ∷ rest) low = let short : nat_lt n 128 ≡ true = lt-ltb n 128 low in rw short refl

high_length_is_short : (n : ℕ) (ds rest : List ℕ) → 128 ≤ n → AreDigits 256 ds n → 0 < get_or ds 0 0 → is_short_length (((128 + length ds) ∷ ds) ++ rest) n ≡ true
high_length_is_short n [] rest high are pos = absurd (are.some refl)
high_length_is_short n (d ∷ ds) rest high are pos = passes (128 + length (d ∷ ds)) 127 n 128 d 0 (omega arith) (λ same. omega arith)

-- the high form of shortest length is the strict one
pub short_identifier : (class : ℕ) (constructed : Bool) (tag : ℕ) (ds after : List ℕ) → AreDigits 128 ds tag
    → is_short_identifier ((lead class constructed 31 ∷ continued ds) ++ after) tag ≡ true
    → lead class constructed 31 ∷ continued ds ≡ strict_identifier class constructed tag
short_identifier class constructed tag [] after are test = absurd (are.some refl)
short_identifier class constructed tag (d ∷ []) after are test =
    let first = lead_low class constructed 31 (omega arith) in
    let says = large_and_next (lead class constructed 31 % 32) 30 tag 31 d 128 (omega arith) test in
    let value = are.value in
    let same : digits_of 128 tag ≡ d ∷ [] = subst (λ n. digits_of 128 n ≡ d ∷ []) are.value (digits_shortest 128 d [] (omega arith) (omega arith) are.below) in
    let high : nat_lt tag 31 ≡ false = le-ltb tag 31 (omega arith) in
    rw (high, same) refl
short_identifier class constructed tag (d ∷ e ∷ ds) after are test =
    let first = lead_low class constructed 31 (omega arith) in
    let says = large_and_next (lead class constructed 31 % 32) 30 tag 31 (128 + d) 128 (omega arith) test in
    let pos : 0 < d = above_zero d says.1 in
    let same : digits_of 128 tag ≡ d ∷ e ∷ ds = subst (λ n. digits_of 128 n ≡ d ∷ e ∷ ds) are.value (digits_shortest 128 d (e ∷ ds) (omega arith) pos are.below) in
    let high : nat_lt tag 31 ≡ false = le-ltb tag 31 (omega arith) in
    rw (high, same) refl

-- the long form of shortest length is the strict one
pub short_length : (n : ℕ) (ds rest : List ℕ) → AreDigits 256 ds n → is_short_length (((128 + length ds) ∷ ds) ++ rest) n ≡ true
    → (128 + length ds) ∷ ds ≡ strict_length n
short_length n [] rest are test = absurd (are.some refl)
short_length n (d ∷ ds) rest are test =
    let says = large_and_next (128 + length (d ∷ ds)) 127 n 128 d 0 (omega arith) test in
    let pos : 0 < d = nonzero d says.1 in
    let same : digits_of 256 n ≡ d ∷ ds = subst (λ m. digits_of 256 m ≡ d ∷ ds) are.value (digits_shortest 256 d ds (omega arith) pos are.below) in
    let high : nat_lt n 128 ≡ false = le-ltb n 128 (omega arith) in
    rw (high, same) refl

-- the strict identifier passes the test
pub identifier_is_short : (class : ℕ) (constructed : Bool) (tag : ℕ) (after : List ℕ) → is_short_identifier (strict_identifier class constructed tag ++ after) tag ≡ true
identifier_is_short class constructed tag after =
    elim (cases_lt tag 31) [
      | inl low ↦
          let short : nat_lt tag 31 ≡ true = lt-ltb tag 31 low in
          rw short (low_is_short class constructed tag after low)
      | inr high ↦
          let long : nat_lt tag 31 ≡ false = le-ltb tag 31 high in
          rw long (high_is_short class constructed tag (digits_of 128 tag) after (omega arith) (fewest_are 128 tag (omega arith) (omega arith)) (first_digits_of 128 tag (omega arith) (omega arith)))
    ]

-- the strict length passes the test
pub length_is_short : (n : ℕ) (rest : List ℕ) → is_short_length (strict_length n ++ rest) n ≡ true
length_is_short n rest =
    elim (cases_lt n 128) [
      | inl low ↦
          let short : nat_lt n 128 ≡ true = lt-ltb n 128 low in
          rw short (low_length_is_short n rest low)
      | inr high ↦
          let long : nat_lt n 128 ≡ false = le-ltb n 128 high in
          rw long (high_length_is_short n (digits_of 256 n) rest high (fewest_are 256 n (omega arith) (omega arith)) (first_digits_of 256 n (omega arith) (omega arith)))
    ]
