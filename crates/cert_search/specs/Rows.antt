-- How a search raises its rows, each from the one before it.
use Rattle.std.specs.Prelude.{◌≡◌, ℕ, ◌+◌, ◌<◌, List, length, All, ◌⊎◌, ◌↔◌}
use Rattle.cert_graph.specs.declared.reach.Reach.{Reach}
use Rattle.cert_graph.specs.declared.nodes.Group.{Group}
use Rattle.cert_graph.specs.declared.nodes.Nodes.{Nodes}
use Rattle.cert_graph.specs.Reach.{Takes, IsAtMost}
use Rattle.cert_graph.specs.Graph.{Graph}
use Rattle.cert_graph.specs.Adequate.{at_row, row_of}
use Rattle.cert_graph.specs.Steps.{one_of}
use Rattle.cert_graph.specs.Groups.{IsOffered}
use Rattle.cert_search.specs.Exact.{HoldsExactly}

-- a certificate may go on if a count is met: to an anchor, or to an issuer that a row reaches
-- with it
abbrev pub GoesOn : Graph → List Reach → ℕ → ℕ → Type 0
GoesOn g row v c = ((a : ℕ) × g.AnchorEdge v a) ⊎ ((w : ℕ) × g.Fit w × g.Edge v w × Takes (at_row row w) c)

-- what a row lets each certificate go on to
abbrev pub AreOffers : Graph → List Reach → List Reach → Type 0
AreOffers g row offers = (v c : ℕ) → Takes (at_row offers v) c ↔ GoesOn g row v c

-- the next row: what a fit issuer's limit and its offer both let through, itself counted
abbrev pub IsRaisedBy : Graph → List Reach → List Reach → Type 0
IsRaisedBy g offers row = (v c : ℕ) → Takes (at_row row v) c ↔ (g.Fit v × Takes (g.limit v) c × Takes (at_row offers v) (c + one_of g v))

-- what a group offers to all that it issued: its anchors, or what a row reaches with at its fit
-- members
abbrev pub GroupOffers : Nodes → List Reach → Group → ℕ → Type 0
GroupOffers nodes row group c = (0 < length group.anchors.items) ⊎ IsOffered nodes row group.members.items c

-- A row that is raised from itself.
pub record IsFixed (g : Graph) (row : List Reach) : Type 0 where
  pub offers : List Reach
  pub offered : AreOffers g row offers
  pub raised : IsRaisedBy g offers row

-- the target is usable, and may go on by a row
abbrev pub Opens : Graph → ℕ → List Reach → Type 0
Opens g target row = g.Usable target × GoesOn g row target 0

-- no entry of a row is above that of another
abbrev pub StandsUnder : List Reach → List Reach → Type 0
StandsUnder r s = (v : ℕ) → IsAtMost (at_row r v) (at_row s v)

-- The rows of a search: each exact, and none but the last opens the target.
pub record IsRun (g : Graph) (target : ℕ) (rows : List (List Reach)) : Type 0 where
  pub whole : All (λ row. length row ≡ g.items) rows
  pub exact : (k : ℕ) → k < length rows → HoldsExactly g (k + 1) (row_of rows k)
  pub closed : (k : ℕ) → k + 1 < length rows → Opens g target (row_of rows k) → ⊥
