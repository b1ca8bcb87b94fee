-- Which groups an item is linked to.
use Rattle.std.specs.Prelude.{ℕ, List, length, Contains}
use Rattle.cert_graph.specs.declared.nodes.Group.{Group}
use Rattle.cert_graph.specs.declared.nodes.Nodes.{Nodes}
use Rattle.cert_graph.specs.Entries.{IsAt}
use Rattle.cert_graph.specs.Lists.{AreFilled}

-- a group, by its place, to which an item is linked
abbrev pub IssuedBy : List Group → ℕ → ℕ → Type 0
IssuedBy groups k v = IsAt groups k (λ g. Contains g.issued.items v)

-- a group, by its place, of which an item is a member
abbrev pub MemberIn : List Group → ℕ → ℕ → Type 0
MemberIn groups k v = IsAt groups k (λ g. Contains g.members.items v)

-- the groups of which each item is a member
abbrev pub AreMemberships : Nodes → List (List ℕ) → Type 0
AreMemberships nodes places = AreFilled (MemberIn nodes.groups.items) (length nodes.items.items) (length nodes.groups.items) places
