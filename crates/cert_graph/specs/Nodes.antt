-- The graph of nodes and their groups.
use Rattle.std.specs.Prelude.{◌≡◌, ℕ, ◌<◌, true, false, length, map, Any, Contains, slice_index_or}
use Rattle.std.specs.List.{HoldsAt}
use Rattle.cert_graph.specs.declared.reach.Reach.TheVariants.{No}
use Rattle.cert_graph.specs.declared.nodes.Node.{Node}
use Rattle.cert_graph.specs.declared.nodes.Group.{Group}
use Rattle.cert_graph.specs.declared.nodes.Nodes.{Nodes}
use Rattle.cert_graph.specs.Reach.{reach_of}
use Rattle.cert_graph.specs.Graph.{Graph}

-- a position names a node with a property
abbrev pub IsNode : Nodes → ℕ → (Node → Type 0) → Type 0
IsNode nodes v P = (v < length nodes.items.items) × HoldsAt P nodes.items.items v

-- A group that issued v has the certificate w.
pub record HasLink (v w : ℕ) (g : Group) : Type 0 where
  pub issued : Contains g.issued.items v
  pub member : Contains g.members.items w

-- A group that issued v has the anchor a.
pub record HasAnchorLink (v a : ℕ) (g : Group) : Type 0 where
  pub issued : Contains g.issued.items v
  pub anchor : Contains g.anchors.items a

-- some group that issued v has w
unfoldable pub Links : Nodes → ℕ → ℕ → Type 0
Links nodes v w = Any (HasLink v w) nodes.groups.items

-- some group that issued v has the anchor a
unfoldable pub LinksToAnchor : Nodes → ℕ → ℕ → Type 0
LinksToAnchor nodes v a = Any (HasAnchorLink v a) nodes.groups.items

abbrev pub graph_of : Nodes → Graph
graph_of nodes = record {
  items = length nodes.items.items;
  IsCertificate = λ v. IsNode nodes v (λ n. n.certificate ≡ true);
  Usable = λ v. IsNode nodes v (λ n. n.usable ≡ true);
  Fit = λ v. IsNode nodes v (λ n. n.fit ≡ true);
  self_issued = λ v. slice_index_or (map (λ n. n.self_issued) nodes.items.items) v false;
  limit = λ v. slice_index_or (map (λ n. reach_of n.limit) nodes.items.items) v No;
  Edge = Links nodes;
  AnchorEdge = LinksToAnchor nodes;
}
