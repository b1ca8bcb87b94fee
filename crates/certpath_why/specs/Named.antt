-- The certificates of one name, as ranges of positions and by their key identifiers. Contracts of private functions cite it.
use Rattle.std.specs.Borrow.{Bor}
use Rattle.std.specs.Prelude.{◌≡◌, ℕ, List, map, option_map, slice_get, Contains, Option, Some, None}
use Rattle.std.specs.Ordering.{on, nat_cmp}
use Rattle.std.specs.Cmp.Lexicographic.{slice_cmp}
use Rattle.std.specs.BTreeMap as mapped
use Rattle.cert_graph.specs.declared.places.Place.{Place}
use Rattle.cert_judge.specs.declared.items.ReadItem.{ReadItem}
use Rattle.cert_judge.specs.declared.items.ReadItem.TheVariants.{Certificate as certificate_read, List as list_read, Other as other_read}
use Rattle.cert_judge.specs.Items.{item_of}
use Rattle.certpath_why.specs.Directories.{IsDirectory}
use Rattle.certpath_why.specs.Ranges.{AreRanges}
use Rattle.certpath_why.specs.Reached.{ArePositions, HasSubject}
use Rattle.certpath_why.specs.declared.found.Found.{Found}
use Rattle.certpath_why.specs.declared.named.Issuers.{Issuers}
use Rattle.certpath_why.specs.declared.named.IssuersByName.{IssuersByName}
use Rattle.certpath_why.specs.declared.named.Named.{Named}

-- the key identifier that a certificate says to be its own; other items have none
abbrev pub read_id : ReadItem → Option (Bor (List ℕ))
read_id (certificate_read x) = x.subject_key_id
read_id (list_read x) = None
read_id (other_read octets) = None

abbrev pub id_in : Option ReadItem → Option (Bor (List ℕ))
id_in None = None
id_in (Some z) = read_id z

-- that of the item at a position
abbrev pub own_id : List ReadItem → ℕ → Option (Bor (List ℕ))
own_id items w = id_in (slice_get items w)

abbrev pub HasId : List ReadItem → ℕ → Type 0
HasId items w = (id : Bor (List ℕ)) × (own_id items w ≡ Some id)

abbrev pub IsOwnId : List ReadItem → List ℕ → ℕ → Type 0
IsOwnId items id w = option_map (λ (s : Bor (List ℕ)). s.now) (own_id items w) ≡ Some id

-- it stands for a name, so that a directory finds it
abbrev pub id_place : List ReadItem → ℕ → Place
id_place items w = record { name = own_id items w; key = None; id = None }

-- The certificates at the positions with a property.
pub record AreGathered (items : List ReadItem) (P : ℕ → Type 0) (issuers : Issuers) : Type 0 where
  pub places : ArePositions P issuers.places.items
  pub all : AreRanges (Contains issuers.places.items) issuers.all.items
  pub keyed : AreRanges (λ w. Contains issuers.places.items w × HasId items w) issuers.keyed.items
  pub by_id : IsDirectory (map (id_place items) issuers.places.items) issuers.by_id.buckets.items
  pub bare : ArePositions (λ w. Contains issuers.places.items w × (HasId items w → ⊥)) issuers.bare.items
  pub bare_ranges : AreRanges (Contains issuers.bare.items) issuers.bare_ranges.items

-- those of a name
abbrev pub AreIssuers : List ReadItem → List ℕ → Issuers → Type 0
AreIssuers items name issuers = AreGathered items (HasSubject (map item_of items) name) issuers

-- what is under a name are the certificates of that name
abbrev pub AreByName : List ReadItem → IssuersByName → Type 0
AreByName items named = (q : Bor (List ℕ)) (issuers : Issuers) → mapped.get (on (λ (b : Bor (List ℕ)). b.now) (slice_cmp nat_cmp)) named.by_name q ≡ Some issuers → AreIssuers items q.now issuers

-- those among the items, and those among the anchors
pub record AreNamed (f : Found) (named : Named) : Type 0 where
  pub issuers : AreByName f.items.now named.issuers
  pub roots : AreByName f.anchors.now named.roots
