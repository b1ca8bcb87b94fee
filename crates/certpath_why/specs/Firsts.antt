-- Equal rows have one number, that of the first of them. Contracts of private functions cite it.
use Rattle.std.specs.Borrow.{Bor}
use Rattle.std.specs.Prelude.{◌≡◌, ◌≤◌, ◌<◌, ℕ, List, Vec, Option, Some, None, length, slice_index_or}
use Rattle.std.specs.Ordering.{on, nat_cmp}
use Rattle.std.specs.Cmp.Lexicographic.{slice_cmp}
use Rattle.std.specs.BTreeMap as mapped
use Rattle.std.specs.BTreeMap.{BTreeMap}
use Rattle.std.specs.declared.alloc.Global.{Global}

-- a number has this row
abbrev pub HasRow : List (Vec ℕ Global) → ℕ → List ℕ → Type 0
HasRow rows n row = (r : Vec ℕ Global) → (slice_index_or rows n r).items ≡ row

-- The first number that has this row.
pub record IsFirstOf (rows : List (Vec ℕ Global)) (row : List ℕ) (n : ℕ) : Type 0 where
  pub has : HasRow rows n row
  pub none_before : (m : ℕ) → m < n → HasRow rows m row → ⊥

-- the first number that has the row of this one
abbrev pub IsFirst : List (Vec ℕ Global) → ℕ → ℕ → Type 0
IsFirst rows k n = (n ≤ k) × ((r : Vec ℕ Global) → IsFirstOf rows (slice_index_or rows k r).items n)

-- the number under a row
abbrev pub number_of : BTreeMap (Bor (List ℕ)) ℕ → Bor (List ℕ) → Option ℕ
number_of known q = mapped.get (on (λ (b : Bor (List ℕ)). b.now) (slice_cmp nat_cmp)) known q

-- What the map has for a row is the first number that has it, and it has each row of the first k numbers.
pub record AreRowsKnown (rows : List (Vec ℕ Global)) (k : ℕ) (known : BTreeMap (Bor (List ℕ)) ℕ) : Type 0 where
  pub first : (q : Bor (List ℕ)) (n : ℕ) → number_of known q ≡ Some n → (n < k) × IsFirstOf rows q.now n
  pub met : (q : Bor (List ℕ)) (m : ℕ) → m < k → HasRow rows m q.now → number_of known q ≡ None → ⊥

-- the first numbers of the first k rows
pub record AreFirstsOf (rows : List (Vec ℕ Global)) (k : ℕ) (firsts : List ℕ) : Type 0 where
  pub count : length firsts ≡ k
  pub each : (i : ℕ) → i < k → IsFirst rows i (slice_index_or firsts i 0)

abbrev pub AreFirsts : List (Vec ℕ Global) → List ℕ → Type 0
AreFirsts rows firsts = AreFirstsOf rows (length rows) firsts
