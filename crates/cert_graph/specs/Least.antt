-- The least of some numbers, and the positions that a row reaches.
use Rattle.std.specs.Prelude.{ℕ, ◌<◌, min, Option, Some, None, List}
use Rattle.cert_graph.specs.declared.reach.Reach.{Reach}
use Rattle.cert_graph.specs.Reach.{Takes}
use Rattle.cert_graph.specs.Graph.{Graph}
use Rattle.cert_graph.specs.Adequate.{at_row}

-- the least number with a property
abbrev pub IsLeast : (ℕ → Type 0) → ℕ → Type 0
IsLeast P n = P n × ((m : ℕ) → m < n → P m → ⊥)

-- the least number with a property, or none has it
abbrev pub IsLeastOption : (ℕ → Type 0) → Option ℕ → Type 0
IsLeastOption P None = (n : ℕ) → P n → ⊥
IsLeastOption P (Some n) = IsLeast P n

-- the lower of two numbers, each of which may be missing
abbrev pub lower_of : Option ℕ → Option ℕ → Option ℕ
lower_of None n = n
lower_of (Some m) None = Some m
lower_of (Some m) (Some n) = Some (min m n)

-- a row takes a count at a fit issuer
abbrev pub IsOpen : Graph → List Reach → ℕ → ℕ → Type 0
IsOpen g row count w = g.Fit w × Takes (at_row row w) count
