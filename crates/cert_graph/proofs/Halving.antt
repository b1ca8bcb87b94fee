-- A number is looked for between two places of an ascending list.
use Rattle.std.proofs.Common.{◌≡◌, ℕ, ◌+◌, ◌<◌, ◌≤◌, List, length, get_or, arith, ◌∙◌, subst, inl, inr}
use Rattle.std.specs.Prelude.{Contains}
use Rattle.std.specs.List.Sorted.{IsStrictlyIncreasing}
use Rattle.std.proofs.lemmas.Bool.{cases_lt}
use Rattle.std.proofs.lemmas.List.{get_or_default}
use Rattle.std.proofs.lemmas.List.Kept.{AllPairs-from_increasing}

-- All before the first place are below the number, and none from the second on is.
pub record IsBetween (xs : List ℕ) (number low high : ℕ) : Type 0 where
  pub order : low ≤ high
  pub small : high ≤ length xs
  pub before : (k : ℕ) → k < low → get_or xs k 0 < number
  pub after : (k : ℕ) → high ≤ k → k < length xs → number ≤ get_or xs k 0

pub between_all : (xs : List ℕ) (number : ℕ) → IsBetween xs number 0 (length xs)
between_all xs number = record {
  order = omega arith;
  small = omega arith;
  before = λ k lt. absurd (omega arith);
  after = λ k le lt. absurd (omega arith);
}

pub between_up : (xs : List ℕ) (number low high m : ℕ) → IsStrictlyIncreasing xs → IsBetween xs number low high → m < high → get_or xs m 0 < number → IsBetween xs number (m + 1) high
between_up xs number low high m up h below less = let small = h.small in record {
  order = omega arith;
  small = small;
  before = λ k lt. elim (cases_lt k m) [
    | inl earlier ↦
        let within : m < length xs = omega arith in
        let rises = AllPairs-from_increasing xs up k m 0 earlier within in omega arith
    | inr other ↦ let same : m ≡ k = omega arith in subst (λ (j : ℕ). get_or xs j 0 < number) same less
  ];
  after = h.after;
}

pub between_down : (xs : List ℕ) (number low high m : ℕ) → IsStrictlyIncreasing xs → IsBetween xs number low high → low ≤ m → m < high → number ≤ get_or xs m 0 → IsBetween xs number low m
between_down xs number low high m up h above below least = let small = h.small in record {
  order = above;
  small = omega arith;
  before = h.before;
  after = λ k le lt. elim (cases_lt m k) [
    | inl later ↦ let rises = AllPairs-from_increasing xs up m k 0 later lt in omega arith
    | inr other ↦ let same : m ≡ k = omega arith in subst (λ (j : ℕ). number ≤ get_or xs j 0) same least
  ];
}

-- if the places meet, the number is there or nowhere
pub between_found : (xs : List ℕ) (number low high : ℕ) → IsStrictlyIncreasing xs → IsBetween xs number low high → high ≤ low → Contains xs number → (low < length xs) × (get_or xs low 0 ≡ number)
between_found xs number low high up h meet x =
    let k = x.0 in
    let within : k < length xs = x.1 in
    let is : get_or xs k 0 ≡ number = get_or_default xs k 0 number within ∙ x.2 in
    elim (cases_lt k low) [
      | inl below ↦ let less = h.before k below in absurd (omega arith)
      | inr above ↦
          let there : low < length xs = omega arith in
          let least = h.after low meet there in
          elim (cases_lt low k) [
            | inl later ↦ let rises = AllPairs-from_increasing xs up low k 0 later within in absurd (omega arith)
            | inr other ↦ let same : k ≡ low = omega arith in (there, subst (λ (j : ℕ). get_or xs j 0 ≡ number) same is)
          ]
    ]
