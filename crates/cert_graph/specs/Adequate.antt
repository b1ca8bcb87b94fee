-- True answers, and answers that show by inequalities that they are true.
use Rattle.std.specs.Prelude.{◌≡◌, ℕ, ◌+◌, ◌<◌, ◌≤◌, cond, List, [], ◌∷◌, ◌++◌, length, map, replicate, ◌⊎◌, All, slice_index_or, slice_set}
use Rattle.cert_graph.specs.declared.reach.Reach.{Reach}
use Rattle.cert_graph.specs.declared.reach.Reach.TheVariants.{No}
use Rattle.cert_graph.specs.declared.answer.Table.{Table}
use Rattle.cert_graph.specs.declared.answer.Table.TheVariants.{Row, Rows}
use Rattle.cert_graph.specs.declared.answer.Answer.{Answer}
use Rattle.cert_graph.specs.declared.answer.Answer.TheVariants.{Path, NoPath, NoTarget}
use Rattle.cert_graph.specs.Reach.{Takes, IsAtMost, lesser, less_one}
use Rattle.cert_graph.specs.declared.changes.Change.{Change}
use Rattle.cert_graph.specs.Graph.{Graph, counted, EndsIn, IsValidPath, IsFirstPath, HasNoPath}

-- what an answer says is so; its table is no part of this
abbrev pub IsTrueAnswer : Graph → ℕ → Answer → Type 0
IsTrueAnswer g target (Path ps a table) = IsFirstPath g target ps.items a
IsTrueAnswer g target (NoPath table) = g.IsCertificate target × HasNoPath g target
IsTrueAnswer g target NoTarget = g.IsCertificate target → ⊥

-- what a row holds at a position
abbrev pub at_row : List Reach → ℕ → Reach
at_row row v = slice_index_or row v No

-- the row for at most k + 1 issuers
abbrev pub row_of : List (List Reach) → ℕ → List Reach
row_of rows k = slice_index_or rows k []

-- what is left of an issuer's reach for one that it issued: one less if that isn't self-issued
abbrev pub passed_by : Graph → ℕ → Reach → Reach
passed_by g v r = cond (g.self_issued v) r (less_one r)

-- if a fit position has a link to an anchor, the row holds its limit at least
unfoldable pub HasAnchoredAt : Graph → List Reach → ℕ → Type 0
HasAnchoredAt g row v = (a : ℕ) → g.Fit v → g.AnchorEdge v a → IsAtMost (g.limit v) (at_row row v)

abbrev pub HasAnchored : Graph → List Reach → Type 0
HasAnchored g row = (v : ℕ) → HasAnchoredAt g row v

-- if a fit position links to a fit one, the next row holds at least what the link lets through
abbrev pub IsSuccessor : Graph → List Reach → List Reach → Type 0
IsSuccessor g r s = (v w : ℕ) → g.Fit v → g.Fit w → g.Edge v w → IsAtMost (lesser (g.limit v) (passed_by g v (at_row r w))) (at_row s v)

abbrev pub issuers_of : List ℕ → List ℕ
issuers_of [] = []
issuers_of (target ∷ issuers) = issuers

-- A path with a table that shows that it is the first.
pub record IsAdequatePath (g : Graph) (target : ℕ) (ps : List ℕ) (anchor : ℕ) (rows : List (List Reach)) : Type 0 where
  pub valid : IsValidPath g target ps anchor
  pub count : length rows + 1 ≡ length ps
  pub whole : All (λ row. length row ≡ g.items) rows
  pub anchored : All (HasAnchored g) rows
  pub successors : (k : ℕ) → k + 1 < length rows → IsSuccessor g (row_of rows k) (row_of rows (k + 1))
  -- no smaller anchor would do
  pub least_anchor : EndsIn (λ v. (b : ℕ) → b < anchor → g.AnchorEdge v b → ⊥) ps
  -- the target alone is no path
  pub not_alone : 2 ≤ length ps → (b : ℕ) → g.AnchorEdge target b → ⊥
  -- no path has one issuer fewer: the last row but one holds nothing at the target's issuers
  pub not_shorter : (k w : ℕ) → k + 3 ≡ length ps → g.Fit w → g.Edge target w → at_row (row_of rows k) w ≡ No
  -- nowhere would a smaller position do: the row for what follows doesn't take the count at it
  pub not_smaller : (front back : List ℕ) (v p w : ℕ) → ps ≡ front ++ v ∷ p ∷ back → w < p → g.Fit w → g.Edge v w → Takes (at_row (row_of rows (length back)) w) (counted g (issuers_of (front ++ v ∷ []))) → ⊥

-- A row that shows that there is no path.
pub record IsAdequateNone (g : Graph) (target : ℕ) (rows : List (List Reach)) : Type 0 where
  pub certificate : g.IsCertificate target
  pub row : List Reach
  pub one : rows ≡ row ∷ []
  pub whole : length row ≡ g.items
  pub anchored : HasAnchored g row
  pub fixed : IsSuccessor g row row
  pub closed : (g.Usable target → ⊥) ⊎ (((b : ℕ) → g.AnchorEdge target b → ⊥) × ((w : ℕ) → g.Fit w → g.Edge target w → at_row row w ≡ No))

-- a row after some changes, one by one; a change past its end is none
abbrev pub changed : List Reach → List Change → List Reach
changed row [] = row
changed row (x ∷ xs) = changed (slice_set row x.position x.reach) xs

-- the rows that come of a row by the changes of each
abbrev pub rows_by : List Reach → List (List Change) → List (List Reach)
rows_by row [] = []
rows_by row (step ∷ steps) = changed row step ∷ rows_by (changed row step) steps

-- the rows of a table: the one, or those that come of a row of `No` by the changes of each
abbrev pub rows_of : Table → List (List Reach)
rows_of (Row row) = row.items ∷ []
rows_of (Rows width steps) = rows_by (replicate width No) (map (λ s. s.items) steps.items)

abbrev pub IsAdequate : Graph → ℕ → Answer → Type 0
IsAdequate g target (Path ps a table) = IsAdequatePath g target ps.items a (rows_of table)
IsAdequate g target (NoPath table) = IsAdequateNone g target (rows_of table)
IsAdequate g target NoTarget = g.IsCertificate target → ⊥
