-- If there is a holder of a name and key, there is a first one.
use Rattle.std.specs.Prelude.{IsTrue, ◌⊎◌}
use Rattle.std.proofs.Common.{◌≡◌, ap, subst, refl, ℕ, zero, suc, ◌<◌, Bool, true, false, List, Option, Some, None, arith, inl, inr}
use Rattle.std.proofs.lemmas.Bool.{cases_lt, false≢true}
use Rattle.cert_graph.proofs.Gathering.{E, same}
use Rattle.cert_judge.specs.Revoking.{Item}
use Rattle.cert_questions.specs.Shown.{subject_at, key_at}
use Rattle.cert_questions.specs.Questions.{Holds, HoldsFirst}

by_test : (b : Bool) (P : Type 0) → (IsTrue b → P) → (P → IsTrue b) → P ⊎ (P → ⊥)
by_test true P found only = inl (found refl)
by_test false P found only = inr (λ p. false≢true (only p))

same_or_not : (a b : List ℕ) → (a ≡ b) ⊎ (a ≡ b → ⊥)
same_or_not a b = let d = same a b in by_test (E a b) (a ≡ b) d.0 d.1

one_held : {a b : List ℕ} → Some a ≡ Some b → a ≡ b
one_held e = cc

not_held : {b : List ℕ} → None ≡ Some b → ⊥
not_held e = cc

is_some_text : (o : Option (List ℕ)) (b : List ℕ) → (o ≡ Some b) ⊎ (o ≡ Some b → ⊥)
is_some_text None b = inr not_held
is_some_text (Some a) b = elim (same_or_not a b) [ inl e ↦ inl (ap Some e) | inr never ↦ inr (λ e. never (one_held e)) ]

holds_or_not : (items : List Item) (name key : List ℕ) (v : ℕ) → Holds items v name key ⊎ (Holds items v name key → ⊥)
holds_or_not items name key v = elim (is_some_text (subject_at items v) name) [
  | inl named ↦ elim (is_some_text (key_at items v) key) [
    | inl keyed ↦ inl (record { named = named; keyed = keyed })
    | inr never ↦ inr (λ h. never h.keyed)
  ]
  | inr never ↦ inr (λ h. never h.named)
]

-- the first number below k with a property, or none has it
abbrev First : (ℕ → Type 0) → Type 0
First P = (m : ℕ) × P m × ((u : ℕ) → u < m → P u → ⊥)

scan : (P : ℕ → Type 0) → ((n : ℕ) → P n ⊎ (P n → ⊥)) → (k : ℕ) → First P ⊎ ((u : ℕ) → u < k → P u → ⊥)
scan P test zero = inr (λ u lt p. absurd (omega arith))
scan P test (suc k) = elim (scan P test k) [
  | inl found ↦ inl found
  | inr none ↦ elim (test k) [
    | inl p ↦ inl (k, p, none)
    | inr never ↦ inr (λ u lt p. elim (cases_lt u k) [ inl less ↦ none u less p | inr past ↦ let here : u ≡ k = omega arith in never (subst P here p) ])
  ]
]

least : (P : ℕ → Type 0) → ((n : ℕ) → P n ⊎ (P n → ⊥)) → (n : ℕ) → P n → First P
least P test n p = elim (scan P test (suc n)) [ inl found ↦ found | inr none ↦ absurd (none n (omega arith) p) ]

pub first_holder : (items : List Item) (name key : List ℕ) (v : ℕ) → Holds items v name key → (h : ℕ) × HoldsFirst items h name key
first_holder items name key v h =
    let found = least (λ n. Holds items n name key) (holds_or_not items name key) v h in
    (found.0, record { holds = found.1; first = found.2 })
