-- What the code tests group by group, in place of link by link.
use Rattle.std.specs.Prelude.{ℕ, ◌<◌, List, length, All, Any, Contains, slice_index_or}
use Rattle.cert_graph.specs.declared.reach.Reach.{Reach}
use Rattle.cert_graph.specs.declared.nodes.Group.{Group}
use Rattle.cert_graph.specs.declared.nodes.Nodes.{Nodes}
use Rattle.cert_graph.specs.Reach.{Takes, IsAtMost, lesser}
use Rattle.cert_graph.specs.Adequate.{at_row, passed_by}
use Rattle.cert_graph.specs.Nodes.{graph_of}

-- a group that issued v has some anchor
unfoldable pub HasSomeAnchor : ℕ → Group → Type 0
HasSomeAnchor v g = Contains g.issued.items v × (0 < length g.anchors.items)

-- a group that issued v has some anchor below a bound
unfoldable pub HasAnchorBelow : ℕ → ℕ → Group → Type 0
HasAnchorBelow v bound g = Contains g.issued.items v × Any (λ a. a < bound) g.anchors.items

-- a fit position holds its limit at least
unfoldable pub HoldsLimit : Nodes → List Reach → ℕ → Type 0
HoldsLimit nodes row v = (graph_of nodes).Fit v → IsAtMost ((graph_of nodes).limit v) (at_row row v)

-- if a group has anchors, each fit certificate that is linked to it holds its limit at least
unfoldable pub HoldsLimits : Nodes → List Reach → Group → Type 0
HoldsLimits nodes row g = 0 < length g.anchors.items → All (HoldsLimit nodes row) g.issued.items

-- each group keeps that
unfoldable pub HoldsEachLimit : Nodes → List Reach → Type 0
HoldsEachLimit nodes row = All (HoldsLimits nodes row) nodes.groups.items

-- one of some positions is fit, and a row takes a count at it
abbrev pub IsOffered : Nodes → List Reach → List ℕ → ℕ → Type 0
IsOffered nodes row positions c = (w : ℕ) × Contains positions w × (graph_of nodes).Fit w × Takes (at_row row w) c

-- a fit position holds at least what a reach lets through to it
unfoldable pub HoldsPassed : Nodes → List Reach → Reach → ℕ → Type 0
HoldsPassed nodes row reach v =
    (graph_of nodes).Fit v → IsAtMost (lesser ((graph_of nodes).limit v) (passed_by (graph_of nodes) v reach)) (at_row row v)

-- each fit certificate that is linked to a group holds at least what each fit member lets through
-- to it
unfoldable pub HoldsAllPassed : Nodes → List Reach → List Reach → Group → Type 0
HoldsAllPassed nodes row next g =
    (w : ℕ) → Contains g.members.items w → (graph_of nodes).Fit w → All (HoldsPassed nodes next (at_row row w)) g.issued.items

-- each group keeps that
unfoldable pub FollowsRow : Nodes → List Reach → List Reach → Type 0
FollowsRow nodes row next = All (HoldsAllPassed nodes row next) nodes.groups.items

-- a position below a bound is fit, and a row takes a count at it
unfoldable pub IsOpenBelow : Nodes → List Reach → ℕ → ℕ → ℕ → Type 0
IsOpenBelow nodes row count bound w = (w < bound) × (graph_of nodes).Fit w × Takes (at_row row w) count

-- a group that issued v has such a member
unfoldable pub HasOpenBelow : Nodes → List Reach → ℕ → ℕ → ℕ → Group → Type 0
HasOpenBelow nodes row v count bound g = Contains g.issued.items v × Any (IsOpenBelow nodes row count bound) g.members.items

-- each group at some places keeps that
abbrev pub FollowsAt : Nodes → List Reach → List Reach → List ℕ → Type 0
FollowsAt nodes row next places = (k : ℕ) (group : Group) → Contains places k → k < length nodes.groups.items → HoldsAllPassed nodes row next (slice_index_or nodes.groups.items k group)
