-- Links that groups carry.
use Rattle.std.specs.Prelude.{◌≡◌, ◌↔◌, ◌⊎◌, ◌+◌, ◌<◌, ℕ, List, All, Any, Contains}
use Rattle.cert_graph.specs.declared.nodes.Group.{Group}
use Rattle.cert_graph.specs.Nodes.{HasLink, HasAnchorLink}
use Rattle.cert_graph.specs.declared.places.Place.{Place}
use Rattle.cert_graph.specs.declared.places.Part.TheVariants.{Id}
use Rattle.cert_graph.specs.Places.{Shows}

-- positions of a group are below a number
pub record IsWithin (n : ℕ) (g : Group) : Type 0 where
  pub members : All (λ v. v < n) g.members.items
  pub issued : All (λ v. v < n) g.issued.items

-- Groups carry the links that they carried before, and these.
pub record Adds (n : ℕ) (old new : List Group) (P Q : ℕ → ℕ → Type 0) : Type 0 where
  pub within : All (IsWithin n) old → All (IsWithin n) new
  pub links : (v w : ℕ) → Any (HasLink v w) new ↔ (Any (HasLink v w) old ⊎ P v w)
  pub anchored : (v a : ℕ) → Any (HasAnchorLink v a) new ↔ (Any (HasAnchorLink v a) old ⊎ Q v a)

-- if both places show a key identifier, these are equal
abbrev pub AgreeOnId : List Place → ℕ → ℕ → Type 0
AgreeOnId all p q = (a s : List ℕ) → Shows Id all p a → Shows Id all q s → a ≡ s

-- both places show one key identifier
abbrev pub IsIdLink : List Place → ℕ → List ℕ → ℕ → ℕ → Type 0
IsIdLink all n places v w = (id : List ℕ) × (v < n) × (w < n) × (Contains places v × Shows Id all v id) × (Contains places (n + w) × Shows Id all (n + w) id)

-- a link to an issuer, whose place comes after those of n items
abbrev pub IsPlaceLink : List Place → ℕ → List ℕ → List ℕ → ℕ → ℕ → Type 0
IsPlaceLink all n linked holders v w = Contains linked v × Contains holders (n + w) × (w < n) × AgreeOnId all v (n + w)

-- a link to an anchor, whose place comes after those of n items twice
abbrev pub IsPlaceAnchor : ℕ → ℕ → List ℕ → List ℕ → ℕ → ℕ → Type 0
IsPlaceAnchor n m linked holders v a = Contains linked v × Contains holders (n + n + a) × (a < m)
