-- Where a path length prevents a path, by paths alone. This page is to be believed.
use Rattle.std.specs.Prelude.{ℕ, suc, List}
use Rattle.cert_graph.specs.Entries.{IsAt}
use Rattle.cert_graph.specs.Graph.{Graph, IsReached}
use Rattle.cert_judge.specs.ItemGraph.{IsLink, graph_of_items}
use Rattle.cert_judge.specs.Revoking.{Item, JudgingContext}
use Rattle.certpath_why.specs.Bounds.{IsCounted}

-- an issuer leads to no anchor, whatever count it is met at
abbrev pub LeadsNowhere : Graph → ℕ → Type 0
LeadsNowhere g w = (number c : ℕ) → IsReached g number w c → ⊥

-- an issuer leads to an anchor if nothing below it counts, and not if something does (RFC 5280, 6.1.4, l and m)
pub record LeadsWithNoneBelow (g : Graph) (v : ℕ) : Type 0 where
  pub leads : (number : ℕ) × IsReached g number v 0
  pub no_more : (number c : ℕ) → IsReached g number v (suc c) → ⊥

-- A path length holds the one certificate back from the other: it is linked to it by the first rules and counts, and by the second it
-- leads to no anchor, while the other leads to one if nothing below it counts.
pub record IsHeldBackByPaths (r search : JudgingContext) (items anchors : List Item) (w v : ℕ) : Type 0 where
  pub nowhere : LeadsNowhere (graph_of_items search items anchors) w
  pub counts : IsCounted items w
  pub linked : IsAt items w (λ x. IsAt items v (IsLink r items x))
  pub none_below : LeadsWithNoneBelow (graph_of_items search items anchors) v
