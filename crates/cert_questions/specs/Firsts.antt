-- The first places that show a name and a key.
use Rattle.std.specs.Borrow.{Bor}
use Rattle.std.specs.Prelude.{◌≡◌, ◌↔◌, ◌<◌, ℕ, List, length, Contains, Some, None, slice_index_or, Vec}
use Rattle.std.specs.declared.alloc.Global.{Global}
use Rattle.std.specs.declared.cmp.Ordering.{Ordering}
use Rattle.std.specs.Ordering.{on, nat_cmp}
use Rattle.std.specs.Cmp.Lexicographic.{slice_cmp}
use Rattle.std.specs.BTreeMap as mapped
use Rattle.std.specs.List.Sorted.{IsStrictlyIncreasing}
use Rattle.cert_graph.specs.declared.places.Place.{Place}
use Rattle.cert_graph.specs.declared.places.Part.TheVariants.{Name, Key}
use Rattle.cert_graph.specs.Places.{Shows}
use Rattle.cert_questions.specs.declared.firsts.KeyHolders.{KeyHolders}

-- of some places, none before this one shows its key
abbrev pub IsFirstAmong : List Place → List ℕ → ℕ → Type 0
IsFirstAmong all places v = (key : List ℕ) × Shows Key all v key × ((u : ℕ) → Contains places u → u < v → Shows Key all u key → ⊥)

-- a place shows a name and a key, and none before it shows both
abbrev pub IsFirstUnder : List Place → List ℕ → ℕ → Type 0
IsFirstUnder all name v =
    (key : List ℕ) × Shows Name all v name × Shows Key all v key × ((u : ℕ) → u < v → Shows Name all u name → Shows Key all u key → ⊥)

-- exactly the first places of the keys under a name, in ascending order
pub record AreFirstsUnder (all : List Place) (name : List ℕ) (firsts : List ℕ) : Type 0 where
  pub ascends : IsStrictlyIncreasing firsts
  pub exact : (v : ℕ) → Contains firsts v ↔ IsFirstUnder all name v

-- the order of texts that are referred to
abbrev pub by_octets : Bor (List ℕ) → Bor (List ℕ) → Ordering
by_octets = on (λ (b : Bor (List ℕ)). b.now) (slice_cmp nat_cmp)

-- Each name has its first holders, and a name without a number has none.
pub record Knows (all : List Place) (k : KeyHolders) : Type 0 where
  pub found : (q : Bor (List ℕ)) (n : ℕ) → mapped.get by_octets k.numbers q ≡ Some n → n < length k.firsts.items
  pub firsts : (q : Bor (List ℕ)) (n : ℕ) (row : Vec ℕ Global) → mapped.get by_octets k.numbers q ≡ Some n → AreFirstsUnder all q.now (slice_index_or k.firsts.items n row).items
  pub none : (q : Bor (List ℕ)) (v : ℕ) → mapped.get by_octets k.numbers q ≡ None → Shows Name all v q.now → ⊥
