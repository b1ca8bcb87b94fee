-- What the raising of rows comes to, and the answer of a target alone.
use Rattle.std.specs.Prelude.{◌≡◌, ℕ, ◌+◌, List, [], ◌∷◌, length, map, replicate, Vec}
use Rattle.std.specs.declared.alloc.Global.{Global}
use Rattle.cert_graph.specs.declared.reach.Reach.{Reach}
use Rattle.cert_graph.specs.declared.reach.Reach.TheVariants.{No}
use Rattle.cert_graph.specs.declared.changes.Change.{Change}
use Rattle.cert_graph.specs.declared.answer.Answer.{Answer}
use Rattle.cert_graph.specs.declared.answer.Answer.TheVariants.{Path, NoPath, NoTarget}
use Rattle.cert_graph.specs.Graph.{Graph}
use Rattle.cert_graph.specs.Adequate.{row_of, rows_of, rows_by}
use Rattle.cert_search.specs.declared.rounds.Found.{Found}
use Rattle.cert_search.specs.declared.rounds.Found.TheVariants.{Opening, Standing}
use Rattle.cert_search.specs.Exact.{HoldsExactly}
use Rattle.cert_search.specs.Rows.{IsRun, IsFixed, Opens}

-- the rows that come of a row of `No` by some changes
abbrev pub rows_from : Graph → List (Vec Change Global) → List (List Reach)
rows_from g steps = rows_by (replicate g.items No) (map (λ s. s.items) steps)

-- rows of which the last is the first to open the target, or a fixed row that does not open it
abbrev pub IsFound : Graph → ℕ → Found → Type 0
IsFound g target (Opening steps) =
    IsRun g target (rows_from g steps.items) × ((k : ℕ) × (k + 1 ≡ length steps.items) × Opens g target (row_of (rows_from g steps.items) k))
IsFound g target (Standing row) =
    (length row.items ≡ g.items) × IsFixed g row.items × ((n : ℕ) × HoldsExactly g n row.items) × (Opens g target row.items → ⊥)

-- the path of a target alone, to an anchor
abbrev pub IsAlone : ℕ → ℕ → Answer → Type 0
IsAlone target anchor (Path ps a table) = (ps.items ≡ target ∷ []) × (a ≡ anchor) × (rows_of table ≡ [])
IsAlone target anchor (NoPath table) = ⊥
IsAlone target anchor NoTarget = ⊥
