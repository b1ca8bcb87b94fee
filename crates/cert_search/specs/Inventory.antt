-- The rows of a search to its end, and what it says of each target by them.
use Rattle.std.specs.Prelude.{◌≡◌, ℕ, ◌+◌, ◌<◌, ◌≤◌, max, List, length, All}
use Rattle.cert_graph.specs.declared.reach.Reach.{Reach}
use Rattle.cert_graph.specs.declared.inventory.Verdict.{Verdict}
use Rattle.cert_graph.specs.declared.inventory.Verdict.TheVariants.{FirstPath, Pathless, NoCertificate}
use Rattle.cert_graph.specs.Graph.{Graph}
use Rattle.cert_graph.specs.Adequate.{row_of, IsAdequatePath}
use Rattle.cert_graph.specs.Laws.{NamesNoneTwice}
use Rattle.cert_graph.specs.Steps.{MayTake}
use Rattle.cert_search.specs.Exact.{HoldsExactly, HoldsAll, HoldsNoElsewhere}
use Rattle.cert_search.specs.Rows.{IsFixed}

-- The rows of a search to its end: each exact, the last raised from itself. No more rows than
-- items, if there are items; else one row.
pub record AreAllRows (g : Graph) (rows : List (List Reach)) : Type 0 where
  pub whole : All (λ row. length row ≡ g.items) rows
  pub exact : (k : ℕ) → k < length rows → HoldsExactly g (k + 1) (row_of rows k)
  pub last : ℕ
  pub ends : last + 1 ≡ length rows
  pub fixed : IsFixed g (row_of rows last)
  pub bounded : length rows ≤ max 1 g.items

-- A table whose rows hold exactly how far each issuer leads: over as many certificates as a row's
-- number, in the last row over any number.
pub record HasExactTable (g : Graph) (rows : List (List Reach)) : Type 0 where
  pub each : (k : ℕ) → k < length rows → HoldsExactly g (k + 1) (row_of rows k) × HoldsNoElsewhere g (row_of rows k)
  pub last : (k : ℕ) → k + 1 ≡ length rows → HoldsAll g (row_of rows k)

-- no position is twice in a path, so it has no more certificates than there are items
abbrev pub IsShortVerdict : Graph → Verdict → Type 0
IsShortVerdict g (FirstPath ps a) = NamesNoneTwice ps.items × (length ps.items ≤ g.items)
IsShortVerdict g Pathless = Unit {0}
IsShortVerdict g NoCertificate = Unit {0}

-- some issuer of a target is reached by a row, with nothing counted
abbrev pub LeadsOn : Graph → ℕ → List Reach → Type 0
LeadsOn g target row = (w : ℕ) × MayTake g row target 0 w

-- a row leads the target on
abbrev pub LeadsAt : Graph → ℕ → List (List Reach) → ℕ → Type 0
LeadsAt g target rows k = (k < length rows) × LeadsOn g target (row_of rows k)

-- a path that is adequate by all of some rows
abbrev pub IsPathBy : Graph → List (List Reach) → ℕ → Verdict → Type 0
IsPathBy g rows target (FirstPath ps a) = IsAdequatePath g target ps.items a rows
IsPathBy g rows target Pathless = ⊥
IsPathBy g rows target NoCertificate = ⊥
