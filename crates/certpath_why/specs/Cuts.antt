-- Ranges without some positions, of which the first are kept. Contracts of private functions cite it.
use Rattle.std.specs.Prelude.{◌≡◌, ◌≢◌, ◌↔◌, ◌+◌, ◌<◌, ◌≤◌, ℕ, List, [], ◌∷◌, ◌++◌, length, take, Option, Some, None}
use Rattle.certpath_why.specs.Listed.{most_names}
use Rattle.certpath_why.specs.Ranges.{AreRanges, IsInRanges}
use Rattle.certpath_why.specs.declared.cuts.Cut.{Cut}
use Rattle.certpath_why.specs.declared.cuts.Walk.{Walk}
use Rattle.certpath_why.specs.declared.ranges.Range.{Range}

-- ranges from a position on, in ascending order, with a position between each two
abbrev pub AreSpaced : ℕ → List Range → Type 0
AreSpaced b [] = Unit {0}
AreSpaced b (r ∷ rs) = (b ≤ r.first) × (r.first ≤ r.last) × AreSpaced (r.last + 2) rs

-- the first of some ranges, as many as a line shows, and how many there are
pub record CutsTo (rs : List Range) (cut : Cut) : Type 0 where
  pub shown_is : cut.shown.items ≡ take most_names rs
  pub count_is : cut.count ≡ length rs

-- of exactly the positions with a property
abbrev pub IsCutOf : (ℕ → Type 0) → Cut → Type 0
IsCutOf P cut = (rs : List Range) × AreRanges P rs × CutsTo rs cut

-- a range, if there is one
abbrev pub opened : Option Range → List Range
opened None = []
opened (Some r) = r ∷ []

-- the positions of a range before one of them
abbrev pub IsFront : Range → ℕ → Option Range → Type 0
IsFront x p (Some r) = (r.first ≡ x.first) × (r.last + 1 ≡ p) × (x.first < p)
IsFront x p None = p ≤ x.first

-- those after it
abbrev pub IsBack : Range → ℕ → Option Range → Type 0
IsBack x p (Some r) = (r.first ≡ p + 1) × (r.last ≡ x.last) × (p < x.last)
IsBack x p None = x.last ≤ p

-- the ranges that were not gone over yet
abbrev pub ahead : Walk → List Range
ahead walk = opened walk.begun ++ walk.rest.now

abbrev pub AreBelow : ℕ → List Range → Type 0
AreBelow p rs = (w : ℕ) → IsInRanges rs w → w < p

-- what is done is below a position, and it is in none of the ranges that were not begun
pub record IsReady (p : ℕ) (done : List Range) (walk : Walk) : Type 0 where
  pub below : AreBelow p done
  pub past : IsInRanges walk.rest.now p → ⊥

-- the ranges of another walk, ready for a position
pub record IsReadied (p : ℕ) (old : List Range) (walk : Walk) : Type 0 where
  pub done : List Range
  pub cut : CutsTo done walk.cut
  pub same : done ++ ahead walk ≡ old
  pub ready : IsReady p done walk

-- ranges without a position
pub record IsTaken (p : ℕ) (old : List Range) (walk : Walk) : Type 0 where
  pub done : List Range
  pub cut : CutsTo done walk.cut
  pub below : AreBelow p done
  pub spaced : AreSpaced 0 (done ++ ahead walk)
  pub exact : (w : ℕ) → IsInRanges (done ++ ahead walk) w ↔ (IsInRanges old w × (w ≢ p))
