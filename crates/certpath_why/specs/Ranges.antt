-- Positions as ranges. This page is to be believed.
use Rattle.std.specs.Prelude.{◌↔◌, ◌+◌, ◌<◌, ◌≤◌, ◌==◌, ℕ, if◌then◌else◌, List, ◌++◌, codes, Contains, AllPairs}
use Rattle.std.specs.Fmt.{decimal}
use Rattle.certpath_why.specs.declared.ranges.Range.{Range}

-- a position is in one of some ranges
abbrev pub IsInRanges : List Range → ℕ → Type 0
IsInRanges rs p = (r : Range) × Contains rs r × (r.first ≤ p) × (p ≤ r.last)

-- Exactly the positions with a property, in ascending order and in as few ranges as they have: a position without it is between two.
pub record AreRanges (P : ℕ → Type 0) (rs : List Range) : Type 0 where
  pub exact : (p : ℕ) → IsInRanges rs p ↔ P p
  pub apart : AllPairs (λ (r s : Range). r.last + 1 < s.first) rs
  pub none_empty : (r : Range) → Contains rs r → r.first ≤ r.last

-- a position by itself, or the first and the last of several
abbrev pub range_text : Range → List ℕ
range_text r = if r.first == r.last then decimal r.first else decimal r.first ++ (codes "-" ++ decimal r.last)
