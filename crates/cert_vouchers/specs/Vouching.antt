-- Digests of keys, by the digest of the item that they vouch for.
use Rattle.std.specs.Borrow.{Bor}
use Rattle.std.specs.Prelude.{◌≡◌, ◌↔◌, ◌⊎◌, ◌<◌, ◌≤◌, ℕ, List, IsTrue, Some, length, slice_index_or, Contains, Vec}
use Rattle.std.specs.List.Sorted.{IsStrictlyIncreasing}
use Rattle.std.specs.declared.alloc.Global.{Global}
use Rattle.std.specs.Ordering.{nat_cmp}
use Rattle.std.specs.Cmp.Lexicographic.{slice_cmp}
use Rattle.std.specs.BTreeMap as mapped
use Rattle.std.specs.BTreeMap.{BTreeMap}
use Rattle.std.specs.BTreeSet as sorted
use Rattle.std.specs.BTreeSet.{BTreeSet}
use Rattle.cert_graph.specs.Entries.{IsAt}
use Rattle.sha2.specs.Sha256.{sha256}
use Rattle.cert_vouchers.specs.declared.keys.Keys.{Keys}
use Rattle.cert_vouchers.specs.declared.keys.Keys.TheVariants.{One, Many}

-- a key is one of these
abbrev pub HoldsKey : Keys → List ℕ → Type 0
HoldsKey (One only) key = only ≡ key
HoldsKey (Many keys) key = IsTrue (sorted.contains (slice_cmp nat_cmp) keys key)

-- a pair is one of these
abbrev pub HasPair : BTreeMap (List ℕ) Keys → List ℕ → List ℕ → Type 0
HasPair pairs key item = (keys : Keys) × (mapped.get (slice_cmp nat_cmp) pairs item ≡ Some keys) × HoldsKey keys key

-- a key and an item whose digests are a pair
abbrev pub VouchesBy : BTreeMap (List ℕ) Keys → List ℕ → List ℕ → Type 0
VouchesBy pairs key item = HasPair pairs (sha256 key) (sha256 item)

-- the first keys, each at its own place by its digest
abbrev pub ArePlaced : List (Bor (List ℕ)) → ℕ → BTreeMap (List ℕ) ℕ → Type 0
ArePlaced keys k m = (d : List ℕ) (n : ℕ) → (mapped.get (slice_cmp nat_cmp) m d ≡ Some n) ↔ ((n < k) × ((key : Bor (List ℕ)) → sha256 (slice_index_or keys n key).now ≡ d))

-- A row with one place more if something holds.
pub record IsMore (old new : List ℕ) (P : Type 0) (v : ℕ) : Type 0 where
  pub exact : (u : ℕ) → Contains new u ↔ (Contains old u ⊎ ((u ≡ v) × P))
  pub ascends : IsStrictlyIncreasing old → ((u : ℕ) → Contains old u → u ≤ v) → IsStrictlyIncreasing new

-- rows of which each has one place more if something holds of it
pub record Puts (old new : List (Vec ℕ Global)) (P : ℕ → Type 0) (v : ℕ) : Type 0 where
  pub count : length new ≡ length old
  pub each : (k : ℕ) (r : Vec ℕ Global) → k < length old → IsMore (slice_index_or old k r).items (slice_index_or new k r).items (P k) v

-- a key at its place has this digest
abbrev pub IsOf : BTreeMap (List ℕ) ℕ → List ℕ → ℕ → Type 0
IsOf m digest k = mapped.get (slice_cmp nat_cmp) m digest ≡ Some k

-- a key at its place has a digest in a set
abbrev pub IsAmong : BTreeMap (List ℕ) ℕ → BTreeSet (List ℕ) → ℕ → Type 0
IsAmong m digests k = (d : List ℕ) × Contains digests.keys d × IsOf m d k

-- a key at its place is one of an item's
abbrev pub IsFound : BTreeMap (List ℕ) ℕ → Keys → ℕ → Type 0
IsFound m keys k = (d : List ℕ) × HoldsKey keys d × IsOf m d k

-- a key at its place vouches for the item at a place
abbrev pub IsPlaced : BTreeMap (List ℕ) Keys → BTreeMap (List ℕ) ℕ → List (Bor (List ℕ)) → ℕ → ℕ → Type 0
IsPlaced pairs m items v k = IsAt items v (λ o. (d : List ℕ) × HasPair pairs d (sha256 o.now) × (mapped.get (slice_cmp nat_cmp) m d ≡ Some k))
