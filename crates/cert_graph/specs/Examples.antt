-- A small graph with its inventory: it tries the definitions, not the code.
use Rattle.std.specs.Prelude.{◌≡◌, ◌-◌, ◌<◌, false, List, [], ◌∷◌, length, take, drop, replicate}
use Rattle.cert_graph.specs.declared.reach.Reach.{Reach}
use Rattle.cert_graph.specs.declared.reach.Reach.TheVariants.{No, UpTo}
use Rattle.cert_graph.specs.declared.changes.Change.{Change}
use Rattle.cert_graph.specs.Graph.{Graph}
use Rattle.cert_graph.specs.Adequate.{IsAdequatePath, IsAdequateNone, rows_by}
use Rattle.cert_graph.specs.Tables.{IsTable}
use Rattle.cert_graph.specs.Inventory.{StandsAtLast}

-- an issuer under the anchor, with path length 0; a certificate under it; one under nobody; an item
-- that is no certificate
abbrev pub four_items : Graph
four_items = record {
  items = 4;
  IsCertificate = λ v. v < 3;
  Usable = λ v. v < 3;
  Fit = λ v. v ≡ 0;
  self_issued = λ v. false;
  limit = λ v. UpTo 0;
  Edge = λ v w. (v ≡ 1) × (w ≡ 0);
  AnchorEdge = λ v a. (v ≡ 0) × (a ≡ 0);
}

-- the issuer reaches the anchor in the first row; the second row is as the first
abbrev pub two_steps : List (List Change)
two_steps = (record { position = 0; reach = UpTo 0 } ∷ []) ∷ [] ∷ []

abbrev pub two_rows : List (List Reach)
two_rows = rows_by (replicate four_items.items No) two_steps

-- The parts of an adequate inventory of these items, with a verdict of each kind.
pub record ExampleOfAnInventory : Type 0 where
  pub table : IsTable four_items two_rows
  pub stands : StandsAtLast four_items two_rows
  -- the issuer alone, by no row
  pub first : IsAdequatePath four_items 0 (0 ∷ []) 0 (take 0 two_rows)
  -- the certificate under it, by the first row
  pub second : IsAdequatePath four_items 1 (1 ∷ 0 ∷ []) 0 (take 1 two_rows)
  -- the one under nobody, by the last row
  pub third : IsAdequateNone four_items 2 (drop (length two_rows - 1) two_rows)
  pub fourth : four_items.IsCertificate 3 → ⊥
