-- Short lists of positions ascend, and are within.
use Rattle.std.proofs.Common.{ℕ, zero, suc, ◌<◌, [], ◌∷◌, arith}
use Rattle.std.specs.Prelude.{All}
use Rattle.std.proofs.lemmas.List.Elements.{All-from_recursion, All-nil}
use Rattle.std.specs.List.Sorted.{IsStrictlyIncreasing}

pub none_ascends : IsStrictlyIncreasing []
none_ascends k lt = absurd (omega (arith, lt))

pub one_ascends : (p : ℕ) → IsStrictlyIncreasing (p ∷ [])
one_ascends p k lt = absurd (omega (arith, lt))

pub two_ascend : (p q : ℕ) → p < q → IsStrictlyIncreasing (p ∷ q ∷ [])
two_ascend p q less zero lt = less
two_ascend p q less (suc k) lt = absurd (omega (arith, lt))

pub none_within : (n : ℕ) → All (λ v. v < n) []
none_within n = All-nil (λ v. v < n)

pub one_within : (p n : ℕ) → p < n → All (λ v. v < n) (p ∷ [])
one_within p n lt = All-from_recursion (λ v. v < n) (p ∷ []) (lt, tt)

pub two_within : (p q n : ℕ) → p < n → q < n → All (λ v. v < n) (p ∷ q ∷ [])
two_within p q n lt less = All-from_recursion (λ v. v < n) (p ∷ q ∷ []) (lt, (less, tt))
