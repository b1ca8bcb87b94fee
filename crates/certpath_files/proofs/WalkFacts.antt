-- A walk, element by element.
use Rattle.std.proofs.Common.{◌≡◌, ◌≢◌, ◌∙◌, sym, ap, refl, ℕ, zero, suc, ◌+◌, ◌-◌, ◌<◌, ◌≤◌, List, [], ◌∷◌, ◌++◌, length, drop, Some, None, arith, add-zero}
use Rattle.certpath_files.specs.Fronts.{Front, size_in}
use Rattle.certpath_files.specs.Walks.{walk, go_on}
use Rattle.certpath_files.proofs.AddFacts.{append_none}

-- what is to be passed over is passed over
pub walk_skip : {X : Type 0} (front : List ℕ → Front) (rows : ℕ → ℕ → List ℕ → List X) (skip offset number : ℕ) (s : List ℕ) → skip ≤ length s → walk front rows skip offset number s ≡ walk front rows 0 (offset + skip) number (drop skip s)
walk_skip front rows zero offset number s h = ap (λ n. walk front rows 0 n number s) (sym (add-zero offset))
walk_skip front rows (suc skip) offset number [] h = absurd (omega arith)
walk_skip front rows (suc skip) offset number (o ∷ s) h =
    walk_skip front rows skip (offset + 1) number s (omega arith)
    ∙ ap (λ n. walk front rows 0 n number (drop skip s)) (omega arith)

-- an element whose size is known
pub walk_on : {X : Type 0} (front : List ℕ → Front) (rows : ℕ → ℕ → List ℕ → List X) (offset number size : ℕ) (s : List ℕ) → size_in (front s) ≡ Some size → 0 < size → size ≤ length s → walk front rows 0 offset number s ≡ rows offset number s ++ walk front rows 0 (offset + size) (number + 1) (drop size s)
walk_on front rows offset number zero s e p h = absurd (omega arith)
walk_on front rows offset number (suc size) [] e p h = absurd (omega arith)
walk_on front rows offset number (suc size) (o ∷ s) e p h =
    ap (λ z. rows offset number (o ∷ s) ++ go_on z (λ n. walk front rows (n - 1) (offset + 1) (number + 1) s)) e
    ∙ ap (λ z. rows offset number (o ∷ s) ++ z)
    (
    ap (λ n. walk front rows n (offset + 1) (number + 1) s) (omega arith)
    ∙ walk_skip front rows size (offset + 1) (number + 1) s (omega arith)
    ∙ ap (λ n. walk front rows 0 n (number + 1) (drop size s)) (omega arith)
    )

-- one whose size isn't
pub walk_end : {X : Type 0} (front : List ℕ → Front) (rows : ℕ → ℕ → List ℕ → List X) (offset number : ℕ) (s : List ℕ) → s ≢ [] → size_in (front s) ≡ None → walk front rows 0 offset number s ≡ rows offset number s
walk_end front rows offset number [] n e = absurd (n refl)
walk_end front rows offset number (o ∷ s) n e =
    ap (λ z. rows offset number (o ∷ s) ++ go_on z (λ n. walk front rows (n - 1) (offset + 1) (number + 1) s)) e
    ∙ append_none (rows offset number (o ∷ s))
