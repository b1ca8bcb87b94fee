-- What comes of the changes of rows: the last row, and what is listed where they are.
use Rattle.std.specs.Prelude.{ℕ, List, [], ◌∷◌, ◌++◌, slice_index_or}
use Rattle.cert_graph.specs.declared.reach.Reach.{Reach}
use Rattle.cert_graph.specs.declared.changes.Change.{Change}
use Rattle.cert_graph.specs.Adequate.{changed}

-- the last of these rows, or the row itself if there is none
abbrev pub last_by : List Reach → List (List Change) → List Reach
last_by row [] = row
last_by row (step ∷ steps) = last_by (changed row step) steps

-- what is listed for the positions of some changes, the lists given by position
abbrev pub touched : List (List ℕ) → List Change → List ℕ
touched lists [] = []
touched lists (x ∷ xs) = slice_index_or lists x.position [] ++ touched lists xs
