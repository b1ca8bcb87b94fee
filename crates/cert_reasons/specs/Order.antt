-- Lists of reasons, in one order.
use Rattle.std.specs.Prelude.{◌≡◌, ◌↔◌, ◌⊎◌, ◌<◌, ◌+◌, ℕ, List, Contains, AllPairs}

-- the kind of one reason comes first, or the kinds are equal and its position is smaller
abbrev pub IsBefore : ℕ × ℕ → ℕ × ℕ → Type 0
IsBefore p q = (p.0 < q.0) ⊎ ((p.0 ≡ q.0) × (p.1 < q.1))

-- Exactly the reasons that apply, in their order, and so none twice.
pub record AreAll {R : Type 0} (order : R → ℕ × ℕ) (Stands : R → Type 0) (rs : List R) : Type 0 where
  pub exact : (r : R) → Contains rs r ↔ Stands r
  pub ordered : AllPairs (λ r s. IsBefore (order r) (order s)) rs

-- exactly those that apply and come before a kind and position
pub record AreUpTo {R : Type 0} (order : R → ℕ × ℕ) (Stands : R → Type 0) (end : ℕ × ℕ) (rs : List R) : Type 0 where
  pub exact : (r : R) → Contains rs r ↔ (Stands r × IsBefore (order r) end)
  pub ordered : AllPairs (λ r s. IsBefore (order r) (order s)) rs

-- the next position of a kind
abbrev pub behind : ℕ × ℕ → ℕ × ℕ
behind p = (p.0, p.1 + 1)
