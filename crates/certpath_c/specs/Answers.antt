-- Answers on paths as the header has them.
use Rattle.std.specs.Prelude.{◌≡◌, ◌+◌, ◌^◌, ◌<◌, ◌++◌, ℕ, List, [], ◌∷◌, length, map}
use Rattle.std.specs.List.{AllByRecursion}
use Rattle.cert_graph.specs.declared.reach.Reach.{Reach}
use Rattle.cert_graph.specs.declared.reach.Reach.TheVariants.{No, UpTo, Any}
use Rattle.cert_graph.specs.declared.answer.Table.{Table}
use Rattle.cert_graph.specs.declared.answer.Answer.{Answer}
use Rattle.cert_graph.specs.declared.answer.Answer.TheVariants.{Path, NoPath, NoTarget}
use Rattle.cert_graph.specs.Adequate.{rows_of}
use Rattle.certpath_c.specs.declared.answers.AnswerRow.{AnswerRow}

-- CERTPATH_REACH_NO, CERTPATH_REACH_UP_TO(n), CERTPATH_REACH_ANY
abbrev pub reach_number : Reach → ℕ
reach_number No = 0
reach_number (UpTo n) = n + 1
reach_number Any = 18446744073709551615

-- a reach that has a number of its own: a count has 32 bits
abbrev pub FitsReach : Reach → Type 0
FitsReach No = Unit {0}
FitsReach (UpTo n) = n < 2 ^ 32
FitsReach Any = Unit {0}

abbrev pub FitsRow : List Reach → Type 0
FitsRow row = AllByRecursion FitsReach row

-- a row has an entry for each item
abbrev pub IsWide : ℕ → List Reach → Type 0
IsWide width row = length row ≡ width

-- the entries of rows, one row after another
abbrev pub rows_entries : List (List Reach) → List ℕ
rows_entries [] = []
rows_entries (row ∷ rows) = map reach_number row ++ rows_entries rows

-- CERTPATH_PATH, CERTPATH_NO_PATH, CERTPATH_NO_TARGET
abbrev pub outcome_number : Answer → ℕ
outcome_number (Path ps a table) = 0
outcome_number (NoPath table) = 1
outcome_number NoTarget = 2

-- the positions of a path, and none of another answer
abbrev pub positions_of : Answer → List ℕ
positions_of (Path ps a table) = ps.items
positions_of (NoPath table) = []
positions_of NoTarget = []

abbrev pub anchor_of : Answer → ℕ
anchor_of (Path ps a table) = a
anchor_of (NoPath table) = 0
anchor_of NoTarget = 0

-- the entries of an answer's table
abbrev pub answer_entries : Answer → List ℕ
answer_entries (Path ps a table) = rows_entries (rows_of table)
answer_entries (NoPath table) = rows_entries (rows_of table)
answer_entries NoTarget = []

-- the structure says this of the answer
pub record IsRowOf (answer : Answer) (row : AnswerRow) : Type 0 where
  pub outcome : row.outcome ≡ outcome_number answer
  pub length_is : row.length ≡ length (positions_of answer)
  pub anchor : row.anchor ≡ anchor_of answer
  pub entries : row.entries ≡ length (answer_entries answer)

-- whole rows, whose entries these are
pub record AreRowsOf (width : ℕ) (entries : List ℕ) (rows : List (List Reach)) : Type 0 where
  pub entries_are : rows_entries rows ≡ entries
  pub whole : AllByRecursion (IsWide width) rows
  pub fit : AllByRecursion FitsRow rows

abbrev pub IsTableOf : ℕ → List ℕ → Table → Type 0
IsTableOf width entries table = AreRowsOf width entries (rows_of table)

-- a number that is no entry, entries that are no row, and entries that are no whole rows
abbrev pub IsNoReach : ℕ → Type 0
IsNoReach number = (r : Reach) → FitsReach r → reach_number r ≡ number → ⊥

abbrev pub AreNoRow : List ℕ → Type 0
AreNoRow entries = (row : List Reach) → AllByRecursion FitsReach row → map reach_number row ≡ entries → ⊥

abbrev pub AreNoRows : ℕ → List ℕ → Type 0
AreNoRows width entries = (rows : List (List Reach)) → ¬ AreRowsOf width entries rows

abbrev pub IsPathOf : List ℕ → ℕ → Table → Answer → Type 0
IsPathOf positions anchor table (Path ps a t) = (ps.items ≡ positions) × (a ≡ anchor) × (t ≡ table)
IsPathOf positions anchor table (NoPath t) = ⊥
IsPathOf positions anchor table NoTarget = ⊥

-- an answer's table has whole rows
abbrev pub HasWholeRows : ℕ → Answer → Type 0
HasWholeRows width (Path ps a table) = AllByRecursion (IsWide width) (rows_of table)
HasWholeRows width (NoPath table) = AllByRecursion (IsWide width) (rows_of table)
HasWholeRows width NoTarget = Unit {0}

-- each entry of its table has a number of its own
abbrev pub FitsAnswer : Answer → Type 0
FitsAnswer (Path ps a table) = AllByRecursion FitsRow (rows_of table)
FitsAnswer (NoPath table) = AllByRecursion FitsRow (rows_of table)
FitsAnswer NoTarget = Unit {0}

-- the answer that the structure, the positions and the entries are
pub record IsAnswerOf (width : ℕ) (row : AnswerRow) (positions entries : List ℕ) (answer : Answer) : Type 0 where
  pub is_row : IsRowOf answer row
  pub positions_are : positions_of answer ≡ positions
  pub entries_are : answer_entries answer ≡ entries
  pub whole : HasWholeRows width answer
  pub fits : FitsAnswer answer

-- the structure, the positions and the entries are no answer
abbrev pub AreNoAnswer : ℕ → AnswerRow → List ℕ → List ℕ → Type 0
AreNoAnswer width row positions entries = (answer : Answer) → ¬ IsAnswerOf width row positions entries answer
