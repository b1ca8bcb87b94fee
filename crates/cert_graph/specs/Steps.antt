-- Paths given from one certificate to the next, as the code walks them.
use Rattle.std.specs.Prelude.{ℕ, ◌+◌, ◌<◌, not, cond, List, [], ◌∷◌, length}
use Rattle.cert_graph.specs.declared.reach.Reach.{Reach}
use Rattle.cert_graph.specs.Reach.{Takes}
use Rattle.cert_graph.specs.Graph.{Graph}
use Rattle.cert_graph.specs.Adequate.{at_row, row_of}

-- one more if a certificate is not self-issued
abbrev pub one_of : Graph → ℕ → ℕ
one_of g v = cond (not (g.self_issued v)) 1 0

-- a chain of issuers from its first on, which is met at a count
abbrev pub Tail : Graph → ℕ → ℕ → List ℕ → ℕ → Type 0
Tail g c v [] a = g.Fit v × Takes (g.limit v) c × g.AnchorEdge v a
Tail g c v (w ∷ ps) a = g.Fit v × Takes (g.limit v) c × g.Edge v w × Tail g (c + one_of g v) w ps a

-- a valid path from its target on, but for the usability of its issuers
abbrev pub FromTarget : Graph → ℕ → List ℕ → ℕ → Type 0
FromTarget g target [] a = g.Usable target × g.AnchorEdge target a
FromTarget g target (w ∷ ps) a = g.Usable target × g.Edge target w × Tail g 0 w ps a

-- what may follow a certificate of a path
abbrev pub Next : Graph → ℕ → ℕ → List ℕ → ℕ → Type 0
Next g v c [] a = g.AnchorEdge v a
Next g v c (w ∷ ps) a = g.Edge v w × Tail g c w ps a

-- a certificate may be the next of a path
abbrev pub MayFollow : Graph → ℕ → ℕ → ℕ → Type 0
MayFollow g v c w = g.Edge v w × g.Fit w × Takes (g.limit w) c

-- a certificate may be the next of a path by what a row says
abbrev pub MayTake : Graph → List Reach → ℕ → ℕ → ℕ → Type 0
MayTake g row v c w = g.Fit w × g.Edge v w × Takes (at_row row w) c

-- no position before the one taken might have been taken, at each place; what is left of the path
-- gives the row
abbrev pub Lowest : Graph → List (List Reach) → ℕ → ℕ → List ℕ → Type 0
Lowest g rows v c [] = Unit {0}
Lowest g rows v c (w ∷ ps) = ((u : ℕ) → u < w → MayTake g (row_of rows (length ps)) v c u → ⊥) × Lowest g rows w (c + one_of g w) ps
