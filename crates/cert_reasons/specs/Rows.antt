-- Rows of serial numbers and places. Contracts of private functions cite it.
use Rattle.std.specs.Borrow.{Bor}
use Rattle.std.specs.Prelude.{ℕ, Bool, List, IsTrue}
use Rattle.std.specs.declared.cmp.Ordering.{Ordering}
use Rattle.std.specs.Ordering.{nat_cmp, ordering_then}
use Rattle.std.specs.Cmp.Lexicographic.{slice_cmp}
use Rattle.std.specs.BTreeSet as sorted
use Rattle.std.specs.BTreeSet.{BTreeSet}
use Rattle.std.specs.BTreeMap.Range.{range_contains}
use Rattle.std.specs.declared.ops.Bound.TheVariants.{Included}

-- rows are in the order of their serial numbers, and those of one in the order of the places
abbrev pub row_cmp : Bor (List ℕ) × ℕ → Bor (List ℕ) × ℕ → Ordering
row_cmp a b = ordering_then (slice_cmp nat_cmp a.0.now b.0.now) (nat_cmp a.1 b.1)

-- there is a row of a serial number and a place
abbrev pub HasRow : BTreeSet (Bor (List ℕ) × ℕ) → List ℕ → ℕ → Type 0
HasRow rows serial place = IsTrue (sorted.contains row_cmp rows (record { ref_ptr = (0, 0); now = serial }, place))

-- a row is of a serial number, and its place isn't greater than another
abbrev pub is_row_of : List ℕ → ℕ → Bor (List ℕ) × ℕ → Bool
is_row_of serial most row = range_contains row_cmp (Included (record { ref_ptr = (0, 0); now = serial }, 0)) (Included (record { ref_ptr = (0, 0); now = serial }, most)) row
