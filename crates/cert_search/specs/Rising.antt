-- What a search keeps between two rounds, and what a round makes of it.
use Rattle.std.specs.Prelude.{◌≡◌, ℕ, ◌+◌, ◌<◌, List, [], length, replicate, Any, Contains, ◌⊎◌, ◌↔◌, slice_index_or}
use Rattle.cert_graph.specs.declared.reach.Reach.{Reach}
use Rattle.cert_graph.specs.declared.reach.Reach.TheVariants.{No}
use Rattle.cert_graph.specs.declared.nodes.Group.{Group}
use Rattle.cert_graph.specs.declared.nodes.Nodes.{Nodes}
use Rattle.cert_graph.specs.Reach.{Takes, IsAtMost}
use Rattle.cert_graph.specs.Graph.{Graph}
use Rattle.cert_graph.specs.Adequate.{at_row, changed}
use Rattle.cert_graph.specs.Steps.{one_of}
use Rattle.cert_graph.specs.Nodes.{graph_of}
use Rattle.cert_graph.specs.declared.changes.Change.{Change}
use Rattle.cert_search.specs.declared.rising.Rising.{Rising}
use Rattle.cert_search.specs.Rows.{AreOffers, IsRaisedBy, GroupOffers}

-- a group is at a place
abbrev pub IsGroup : Nodes → ℕ → Group → Type 0
IsGroup nodes k group = (k < length nodes.groups.items) × (group ≡ slice_index_or nodes.groups.items k group)

-- the places of the groups that have an anchor
abbrev pub AreAnchored : Nodes → List ℕ → Type 0
AreAnchored nodes anchored = (k : ℕ) → Contains anchored k ↔ ((group : Group) × IsGroup nodes k group × (0 < length group.anchors.items))

-- the places of the groups that a fit position is a member of
abbrev pub ArePlaces : Nodes → List (List ℕ) → Type 0
ArePlaces nodes places =
    (w k : ℕ) → Contains (slice_index_or places w []) k ↔ ((group : Group) × IsGroup nodes k group × (graph_of nodes).Fit w × Contains group.members.items w)

-- a group's place is noted at each of its fit members
abbrev pub AreNoted : Nodes → Group → ℕ → List (List ℕ) → List (List ℕ) → Type 0
AreNoted nodes group place old new =
    (w k : ℕ) → Contains (slice_index_or new w []) k ↔ (Contains (slice_index_or old w []) k ⊎ ((k ≡ place) × (graph_of nodes).Fit w × Contains group.members.items w))

-- a row takes what it took, and what it is raised to
abbrev pub AreRaised : List Reach → List Reach → (ℕ → ℕ → Type 0) → Type 0
AreRaised old new P = (v c : ℕ) → Takes (at_row new v) c ↔ (Takes (at_row old v) c ⊎ P v c)

-- The positions where a row rose are added to a list.
pub record HaveRisen (old new : List Reach) (before after : List ℕ) : Type 0 where
  pub kept : (v : ℕ) → Contains before v → Contains after v
  pub listed : (v : ℕ) → Contains after v ⊎ (at_row new v ≡ at_row old v)
  pub rose : (v : ℕ) → Contains after v → Contains before v ⊎ (IsAtMost (at_row new v) (at_row old v) → ⊥)

-- some changes take a count at a position
abbrev pub ChangeTakes : List Change → ℕ → ℕ → Type 0
ChangeTakes changes v c = Any (λ x. (x.position ≡ v) × Takes x.reach c) changes

-- some changes of members take a count
abbrev pub MemberTakes : List (List ℕ) → List Change → ℕ → ℕ → Type 0
MemberTakes places changes k c = Any (λ x. Contains (slice_index_or places x.position []) k × Takes x.reach c) changes

-- what an issuer's limit and its offer both let through, itself counted
abbrev pub LetsThrough : Graph → List Reach → ℕ → ℕ → Type 0
LetsThrough g offers v c = g.Fit v × Takes (g.limit v) c × Takes (at_row offers v) (c + one_of g v)

-- an offer is what the groups that issued the certificate have handed on
abbrev pub AreHanded : Nodes → List Reach → List Reach → Type 0
AreHanded nodes handed offers =
    (v c : ℕ) → Takes (at_row offers v) c ↔ ((k : ℕ) × (group : Group) × IsGroup nodes k group × Contains group.issued.items v × Takes (at_row handed k) c)

-- what each group may offer by a row
abbrev pub AreBests : Nodes → List Reach → List Reach → Type 0
AreBests nodes row bests = (k : ℕ) (group : Group) → IsGroup nodes k group → (c : ℕ) → Takes (at_row bests k) c ↔ GroupOffers nodes row group c

-- A row with what it offers. If no offer rose last the next row is equal to it.
pub record IsRising (nodes : Nodes) (search : Rising) : Type 0 where
  pub whole : length search.row.items ≡ length nodes.items.items
  pub offers_whole : length search.offers.items ≡ length nodes.items.items
  pub bests_whole : length search.bests.items ≡ length nodes.groups.items
  pub handed_whole : length search.handed.items ≡ length nodes.groups.items
  pub bests : AreBests nodes search.row.items search.bests.items
  pub handed : AreHanded nodes search.handed.items search.offers.items
  pub all_handed : (k c : ℕ) → Takes (at_row search.handed.items k) c ↔ Takes (at_row search.bests.items k) c
  pub below : (v c : ℕ) → Takes (at_row search.row.items v) c → LetsThrough (graph_of nodes) search.offers.items v c
  pub within : (v : ℕ) → Contains search.risen.items v → v < length nodes.items.items
  pub fresh : (v : ℕ) → Contains search.risen.items v ⊎ ((c : ℕ) → LetsThrough (graph_of nodes) search.offers.items v c → Takes (at_row search.row.items v) c)

-- One round.
pub record IsRound (nodes : Nodes) (old new : Rising) (changes : List Change) : Type 0 where
  pub rising : IsRising nodes new
  pub raised : IsRaisedBy (graph_of nodes) old.offers.items new.row.items
  pub offered : AreOffers (graph_of nodes) new.row.items new.offers.items
  pub changed : changed old.row.items changes ≡ new.row.items
  pub risen : HaveRisen old.offers.items new.offers.items [] new.risen.items

-- A search before its first round.
pub record IsBegun (nodes : Nodes) (search : Rising) : Type 0 where
  pub rising : IsRising nodes search
  pub offered : AreOffers (graph_of nodes) search.row.items search.offers.items
  pub nothing : search.row.items ≡ replicate (length nodes.items.items) No
