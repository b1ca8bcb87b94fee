-- Verdicts on all items of a bundle, with one table of rows for all of them.
use Rattle.std.specs.Prelude.{◌≡◌, ℕ, ◌+◌, ◌-◌, ◌<◌, List, length, map, take, drop, replicate}
use Rattle.std.specs.List.{HoldsAt}
use Rattle.cert_graph.specs.declared.reach.Reach.{Reach}
use Rattle.cert_graph.specs.declared.reach.Reach.TheVariants.{No}
use Rattle.cert_graph.specs.declared.inventory.Verdict.{Verdict}
use Rattle.cert_graph.specs.declared.inventory.Verdict.TheVariants.{FirstPath, Pathless, NoCertificate}
use Rattle.cert_graph.specs.declared.inventory.Inventory.{Inventory}
use Rattle.cert_graph.specs.Graph.{Graph, IsFirstPath, HasNoPath}
use Rattle.cert_graph.specs.Adequate.{row_of, IsSuccessor, IsAdequatePath, IsAdequateNone, rows_by}
use Rattle.cert_graph.specs.Tables.{IsTable}

-- what a verdict says of a target is so
abbrev pub IsTrueVerdict : Graph → ℕ → Verdict → Type 0
IsTrueVerdict g target (FirstPath ps a) = IsFirstPath g target ps.items a
IsTrueVerdict g target Pathless = g.IsCertificate target × HasNoPath g target
IsTrueVerdict g target NoCertificate = g.IsCertificate target → ⊥

-- a verdict is adequate by its part of some rows: a path of n certificates by the first n - 1, no
-- path by the last alone
abbrev pub IsAdequateVerdict : Graph → List (List Reach) → ℕ → Verdict → Type 0
IsAdequateVerdict g rows target (FirstPath ps a) = IsAdequatePath g target ps.items a (take (length ps.items - 1) rows)
IsAdequateVerdict g rows target Pathless = IsAdequateNone g target (drop (length rows - 1) rows)
IsAdequateVerdict g rows target NoCertificate = g.IsCertificate target → ⊥

-- the rows that all verdicts of an inventory share
abbrev pub shared_rows : Graph → Inventory → List (List Reach)
shared_rows g inventory = rows_by (replicate g.items No) (map (λ s. s.items) inventory.steps.items)

-- the last row, if there is one, is its own successor
abbrev pub StandsAtLast : Graph → List (List Reach) → Type 0
StandsAtLast g rows = (k : ℕ) → k + 1 ≡ length rows → IsSuccessor g (row_of rows k) (row_of rows k)

-- each verdict has a property at its position
abbrev pub OfEach : (ℕ → Verdict → Type 0) → List Verdict → Type 0
OfEach P verdicts = (target : ℕ) → target < length verdicts → HoldsAt (P target) verdicts target

-- An inventory whose one table shows by inequalities that each of its verdicts is true.
pub record IsAdequateInventory (g : Graph) (inventory : Inventory) : Type 0 where
  pub table : IsTable g (shared_rows g inventory)
  pub stands : StandsAtLast g (shared_rows g inventory)
  pub count : length inventory.verdicts.items ≡ g.items
  pub each : OfEach (IsAdequateVerdict g (shared_rows g inventory)) inventory.verdicts.items

-- An inventory with a true verdict for each item.
pub record IsTrueInventory (g : Graph) (inventory : Inventory) : Type 0 where
  pub count : length inventory.verdicts.items ≡ g.items
  pub each : OfEach (IsTrueVerdict g) inventory.verdicts.items
