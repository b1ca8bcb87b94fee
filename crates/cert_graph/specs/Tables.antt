-- What the code tests of a table as a whole.
use Rattle.std.specs.Prelude.{◌≡◌, ℕ, ◌+◌, ◌<◌, List, length, All, ◌⊎◌}
use Rattle.cert_graph.specs.declared.reach.Reach.{Reach}
use Rattle.cert_graph.specs.declared.reach.Reach.TheVariants.{No}
use Rattle.cert_graph.specs.declared.nodes.Nodes.{Nodes}
use Rattle.cert_graph.specs.Graph.{Graph}
use Rattle.cert_graph.specs.Adequate.{at_row, row_of, HasAnchored, IsSuccessor}
use Rattle.cert_graph.specs.Groups.{FollowsRow}

-- each row but the first follows the one before it
abbrev pub FollowOn : Nodes → List (List Reach) → ℕ → Type 0
FollowOn nodes rows n = (k : ℕ) → k + 1 < n → FollowsRow nodes (row_of rows k) (row_of rows (k + 1))

-- Rows that hold at least what a search would have put there.
pub record IsTable (g : Graph) (rows : List (List Reach)) : Type 0 where
  pub whole : All (λ row. length row ≡ g.items) rows
  pub anchored : All (HasAnchored g) rows
  pub successors : (k : ℕ) → k + 1 < length rows → IsSuccessor g (row_of rows k) (row_of rows (k + 1))

-- a row reaches none of a certificate's issuers
unfoldable pub IsShut : Graph → List Reach → ℕ → Type 0
IsShut g row v = (w : ℕ) → g.Fit w → g.Edge v w → at_row row w ≡ No

-- No path has fewer certificates than there are rows, and one.
pub record IsShortest (g : Graph) (target : ℕ) (rows : List (List Reach)) : Type 0 where
  pub not_alone : 0 < length rows → (b : ℕ) → g.AnchorEdge target b → ⊥
  pub not_shorter : (k : ℕ) → k + 2 ≡ length rows → IsShut g (row_of rows k) target

-- a target is unusable, or neither an anchor nor a reached issuer follows it
unfoldable pub IsClosed : Graph → List Reach → ℕ → Type 0
IsClosed g row target = (g.Usable target → ⊥) ⊎ (((b : ℕ) → g.AnchorEdge target b → ⊥) × IsShut g row target)
