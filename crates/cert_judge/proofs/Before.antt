-- Some of the first elements have a property.
use Rattle.std.specs.Prelude.{◌↔◌, ◌⊎◌}
use Rattle.std.proofs.Common.{◌≡◌, ◌∙◌, sym, subst, ℕ, ◌+◌, ◌<◌, List, length, arith, get_or, inl, inr}
use Rattle.std.specs.List.{Any}
use Rattle.std.proofs.lemmas.Bool.{cases_lt}
use Rattle.std.proofs.lemmas.List.{get_or_default}

abbrev pub SomeBefore : {X : Type 0} → (X → Type 0) → List X → ℕ → Type 0
SomeBefore {X} P xs k = (i : ℕ) × (x : X) × (i < k) × (get_or xs i x ≡ x) × P x

pub none_before : {X : Type 0} (P : X → Type 0) (xs : List X) → SomeBefore P xs 0 → ⊥
none_before P xs h = absurd (omega (arith, h.2))

pub before_more : {X : Type 0} (P : X → Type 0) (xs : List X) (k : ℕ) (x : X) → k < length xs → x ≡ get_or xs k x → SomeBefore P xs (k + 1) ↔ (SomeBefore P xs k ⊎ P x)
before_more P xs k x lt at = (
  λ h. elim (cases_lt h.0 k) [
    | inl less ↦ inl (h.0, h.1, less, h.3, h.4)
    | inr past ↦
        let below = h.2 in
        let same : h.0 ≡ k = omega arith in
        let here : get_or xs k h.1 ≡ h.1 = subst (λ i. get_or xs i h.1 ≡ h.1) same h.3 in
        inr (subst P (sym here ∙ get_or_default xs k h.1 x lt ∙ sym at) h.4)
  ],
  λ h. elim h [ inl y ↦ let less = y.2 in (y.0, y.1, omega arith, y.3, y.4) | inr y ↦ (k, x, omega arith, sym at, y) ],
)

pub before_same : {X : Type 0} (P : X → Type 0) (xs : List X) (k : ℕ) (x : X) → k < length xs → x ≡ get_or xs k x → (P x → ⊥) → SomeBefore P xs (k + 1) ↔ SomeBefore P xs k
before_same P xs k x lt at none = let m = before_more P xs k x lt at in (λ h. elim (m.0 h) [ inl y ↦ y | inr y ↦ absurd (none y) ], λ h. m.1 (inl h))

pub before_all : {X : Type 0} (P : X → Type 0) (xs : List X) (k : ℕ) → k ≡ length xs → SomeBefore P xs k ↔ Any P xs
before_all P xs k end = (
  λ h. let below = h.2 in (h.0, h.1, omega arith, h.3, h.4),
  λ h. let lt = h.2 in (h.0, h.1, omega arith, h.3, h.4),
)
