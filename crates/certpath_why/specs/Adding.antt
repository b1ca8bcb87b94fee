-- Lists of positions to which others were added. Contracts of private functions cite it.
use Rattle.std.specs.Prelude.{◌≡◌, ◌↔◌, ◌⊎◌, ◌<◌, ℕ, List, length, slice_index_or, Contains, Vec}
use Rattle.std.specs.declared.alloc.Global.{Global}

-- To each list the positions with a property were added.
pub record Adds (P : ℕ → ℕ → Type 0) (old new : List (Vec ℕ Global)) : Type 0 where
  pub count : length new ≡ length old
  pub exact : (i w : ℕ) (r : Vec ℕ Global) → i < length old → Contains (slice_index_or new i r).items w ↔ (Contains (slice_index_or old i r).items w ⊎ P i w)

-- one of some places, and one of some positions
abbrev pub IsRowOf : List ℕ → List ℕ → ℕ → ℕ → Type 0
IsRowOf row added i w = Contains row i × Contains added w
