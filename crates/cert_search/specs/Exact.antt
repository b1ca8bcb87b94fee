-- Tables whose rows hold exactly how far each issuer leads, and short paths.
use Rattle.std.specs.Prelude.{◌≡◌, ℕ, ◌+◌, ◌<◌, List, length, ◌↔◌}
use Rattle.cert_graph.specs.declared.reach.Reach.{Reach}
use Rattle.cert_graph.specs.declared.reach.Reach.TheVariants.{No}
use Rattle.cert_graph.specs.declared.answer.Answer.{Answer}
use Rattle.cert_graph.specs.declared.answer.Answer.TheVariants.{Path, NoPath, NoTarget}
use Rattle.cert_graph.specs.Reach.{Takes}
use Rattle.cert_graph.specs.Graph.{Graph, IsReached}
use Rattle.cert_graph.specs.Adequate.{at_row, row_of, rows_of}
use Rattle.cert_graph.specs.Laws.{NamesNoneTwice}

-- a row takes exactly the counts at which an issuer leads to an anchor over so many certificates
abbrev pub HoldsExactly : Graph → ℕ → List Reach → Type 0
HoldsExactly g number row = (v c : ℕ) → Takes (at_row row v) c ↔ IsReached g number v c

-- a row takes exactly the counts at which an issuer leads to an anchor over any number of them
abbrev pub HoldsAll : Graph → List Reach → Type 0
HoldsAll g row = (v c : ℕ) → Takes (at_row row v) c ↔ ((number : ℕ) × IsReached g number v c)

-- a row holds nothing where no fit issuer is
abbrev pub HoldsNoElsewhere : Graph → List Reach → Type 0
HoldsNoElsewhere g row = (v : ℕ) → (g.Fit v → ⊥) → at_row row v ≡ No

-- each row of a path's table is exact for its number, the one row without a path for any number
abbrev pub HasExactRows : Graph → Answer → Type 0
HasExactRows g (Path ps a table) =
    (k : ℕ) → k < length (rows_of table) → HoldsExactly g (k + 1) (row_of (rows_of table) k) × HoldsNoElsewhere g (row_of (rows_of table) k)
HasExactRows g (NoPath table) =
    (k : ℕ) → k < length (rows_of table) → HoldsAll g (row_of (rows_of table) k) × HoldsNoElsewhere g (row_of (rows_of table) k)
HasExactRows g NoTarget = Unit {0}

-- no position is twice in a path, so its table has fewer rows than there are items
abbrev pub IsShort : Graph → Answer → Type 0
IsShort g (Path ps a table) = NamesNoneTwice ps.items × (length (rows_of table) < g.items)
IsShort g (NoPath table) = Unit {0}
IsShort g NoTarget = Unit {0}
