-- Certificates by their subjects and keys, and which of the keys vouch for which octets. Contracts of private functions cite it.
use Rattle.std.specs.Borrow.{Bor}
use Rattle.std.specs.Prelude.{◌≡◌, ◌↔◌, ◌+◌, ◌<◌, ℕ, List, length, slice_index_or, Contains, Vec}
use Rattle.std.specs.declared.alloc.Global.{Global}
use Rattle.cert_graph.specs.declared.buckets.Bucket.{Bucket}
use Rattle.cert_graph.specs.declared.places.Place.{Place}
use Rattle.cert_graph.specs.declared.places.Part.TheVariants.{Name, Key}
use Rattle.cert_graph.specs.Places.{Shows}
use Rattle.cert_judge.specs.Rows.{VouchesAt}
use Rattle.certpath_why.specs.Adding.{Adds}
use Rattle.certpath_why.specs.declared.classes.Classes.{Classes}
use Rattle.certpath_why.specs.declared.holders.Holder.{Holder}
use Rattle.certpath_why.specs.declared.holders.Holders.{Holders}

-- exactly the members of a name and key
abbrev pub IsHolder : List Place → Holder → Type 0
IsHolder members o = (w : ℕ) → Contains o.places.items w ↔ (Shows Name members w o.name.now × Shows Key members w o.key.now)

-- the members of a bucket of one key, and their name
pub record IsOfKey (name : List ℕ) (b : Bucket) (o : Holder) : Type 0 where
  pub name_is : o.name.now ≡ name
  pub key_is : o.key.now ≡ b.text.now
  pub places_are : o.places.items ≡ b.places.items

-- The first keys of a name were added, and each to the rows of the octets for which it vouches.
pub record KeysAdded (name : List ℕ) (keys : List Bucket) (found : List (Vec ℕ Global)) (j : ℕ) (old new : Holders) : Type 0 where
  pub count : length new.all.items ≡ length old.all.items + j
  pub kept : (k : ℕ) (o : Holder) → k < length old.all.items → slice_index_or new.all.items k o ≡ slice_index_or old.all.items k o
  pub added : (m : ℕ) (o : Holder) (b : Bucket) → m < j → IsOfKey name (slice_index_or keys m b) (slice_index_or new.all.items (length old.all.items + m) o)
  pub rows : Adds (λ c k. (m : ℕ) × (m < j) × (k ≡ length old.all.items + m) × ((r : Vec ℕ Global) → Contains (slice_index_or found m r).items c)) old.rows.items new.rows.items

-- The keys of a name were: those of the members at some places, each to the rows of the chosen octets for which it vouches.
pub record NameAdded (V : List ℕ → List ℕ → Type 0) (members : List Place) (name : List ℕ) (places : List ℕ) (texts : List (Bor (List ℕ))) (chosen : List ℕ) (old new : Holders) : Type 0 where
  pub keys : List Bucket
  pub found : List (Vec ℕ Global)
  pub holders : (k : ℕ) (b : Bucket) (w : ℕ) → k < length keys → Contains (slice_index_or keys k b).places.items w ↔ (Contains places w × Shows Key members w (slice_index_or keys k b).text.now)
  pub all : (w : ℕ) (key : List ℕ) → Contains places w → Shows Key members w key → (k : ℕ) × (k < length keys) × ((b : Bucket) → (slice_index_or keys k b).text.now ≡ key)
  pub rows : (k : ℕ) (r : Vec ℕ Global) (b : Bucket) (c : ℕ) → k < length keys → Contains (slice_index_or found k r).items c ↔ (Contains chosen c × VouchesAt V texts (slice_index_or keys k b).text.now c)
  pub added : KeysAdded name keys found (length keys) old new

-- Holders of names and keys of which some are done, and the rows of octets.
pub record AreHolders (V : List ℕ → List ℕ → Type 0) (issued members : List Place) (octets : List (Bor (List ℕ))) (classes : Classes) (Done : List ℕ → List ℕ → Type 0) (h : Holders) : Type 0 where
  pub each : (k : ℕ) (o : Holder) → k < length h.all.items → IsHolder members (slice_index_or h.all.items k o)
  pub count : length h.rows.items ≡ length classes.texts.items
  pub sound : (c k : ℕ) (r : Vec ℕ Global) (o : Holder) (t : Bor (List ℕ)) → c < length classes.texts.items → Contains (slice_index_or h.rows.items c r).items k
      → (k < length h.all.items) × V (slice_index_or h.all.items k o).key.now (slice_index_or classes.texts.items c t).now
  pub complete : (i : ℕ) (name key : List ℕ) → i < length octets → Shows Name issued i name → Done name key → VouchesAt V octets key i
      → (k : ℕ) × ((r : Vec ℕ Global) → Contains (slice_index_or h.rows.items (slice_index_or classes.numbers.items i 0) r).items k) × (k < length h.all.items)
      × ((o : Holder) → ((slice_index_or h.all.items k o).name.now ≡ name) × ((slice_index_or h.all.items k o).key.now ≡ key))

-- a member has a name and key
abbrev pub HasMember : List Place → List ℕ → List ℕ → Type 0
HasMember members name key = (w : ℕ) × Shows Name members w name × Shows Key members w key

-- one of the first names, and a key of a member in its bucket
abbrev pub IsOfNames : List Place → List Bucket → ℕ → List ℕ → List ℕ → Type 0
IsOfNames members names n name key = (m : ℕ) × (m < n) × ((b : Bucket) → ((slice_index_or names m b).text.now ≡ name) × ((w : ℕ) × Contains (slice_index_or names m b).places.items w × Shows Key members w key))

-- a member has a name, and its key vouches for octets
abbrev pub IsSignerOf : (List ℕ → List ℕ → Type 0) → List Place → List ℕ → List ℕ → ℕ → Type 0
IsSignerOf V members name octets w = Shows Name members w name × ((key : List ℕ) × Shows Key members w key × V key octets)

-- the holder of a number has a name and a position
abbrev pub IsNamedAt : Holders → ℕ → List ℕ → ℕ → Type 0
IsNamedAt h k name w = (o : Holder) → ((slice_index_or h.all.items k o).name.now ≡ name) × Contains (slice_index_or h.all.items k o).places.items w

-- one of some holders has a name and a position
abbrev pub IsOfRow : Holders → List ℕ → List ℕ → ℕ → Type 0
IsOfRow h row name w = (k : ℕ) × Contains row k × IsNamedAt h k name w

-- a holder is in the row of one of some numbers of octets
abbrev pub IsInRows : Holders → List ℕ → ℕ → Type 0
IsInRows h numbers k = (c : ℕ) × Contains numbers c × ((r : Vec ℕ Global) → Contains (slice_index_or h.rows.items c r).items k)

-- a holder with this name and position is in the row of a number of octets
abbrev pub IsInRow : Holders → ℕ → List ℕ → ℕ → Type 0
IsInRow h c name w = (k : ℕ) × ((r : Vec ℕ Global) → Contains (slice_index_or h.rows.items c r).items k) × IsNamedAt h k name w
