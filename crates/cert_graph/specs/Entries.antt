-- The graph of entries, which name their groups.
use Rattle.std.specs.Prelude.{◌≡◌, ℕ, ◌<◌, Option, Some, true, false, List, length, map, Contains, slice_index_or}
use Rattle.std.specs.List.{HoldsAt}
use Rattle.cert_graph.specs.declared.reach.Reach.TheVariants.{No}
use Rattle.cert_graph.specs.declared.entries.Entry.{Entry}
use Rattle.cert_graph.specs.Reach.{reach_of}
use Rattle.cert_graph.specs.Graph.{Graph}

-- an element of a list, by its position, has a property
abbrev pub IsAt : {X : Type 0} → List X → ℕ → (X → Type 0) → Type 0
IsAt xs v P = (v < length xs) × HoldsAt P xs v

-- a group that an entry is in
abbrev pub BelongsTo : List Entry → ℕ → ℕ → Type 0
BelongsTo entries w k = IsAt entries w (λ e. Contains e.groups.items k)

-- a group that an entry is linked to
abbrev pub LinkedTo : List Entry → ℕ → ℕ → Type 0
LinkedTo entries v k = IsAt entries v (λ e. Contains e.links.items k)

-- an anchor's own group
abbrev pub AnchorIn : List (Option ℕ) → ℕ → ℕ → Type 0
AnchorIn anchors a k = IsAt anchors a (λ g. g ≡ Some k)

-- a link leads from an entry to each entry, and to each anchor, of a group that it is linked to
abbrev pub graph_by : List Entry → List (Option ℕ) → ℕ → Graph
graph_by entries anchors groups = record {
  items = length entries;
  IsCertificate = λ v. IsAt entries v (λ e. e.node.certificate ≡ true);
  Usable = λ v. IsAt entries v (λ e. e.node.usable ≡ true);
  Fit = λ v. IsAt entries v (λ e. e.node.fit ≡ true);
  self_issued = λ v. slice_index_or (map (λ e. e.node.self_issued) entries) v false;
  limit = λ v. slice_index_or (map (λ e. reach_of e.node.limit) entries) v No;
  Edge = λ v w. (k : ℕ) × (k < groups) × LinkedTo entries v k × BelongsTo entries w k;
  AnchorEdge = λ v a. (k : ℕ) × (k < groups) × LinkedTo entries v k × AnchorIn anchors a k;
}
