-- The text of an inventory: a line with the format's name, a line for each verdict, and the rows as their changes. This page is to be believed.
use Rattle.std.specs.Prelude.{ℕ, ◌<◌, ◌^◌, List, [], ◌∷◌, ◌++◌, map, codes}
use Rattle.std.specs.Fmt.{decimal}
use Rattle.std.specs.List.{flat_map, AllByRecursion}
use Rattle.cert_graph.specs.declared.changes.Change.{Change}
use Rattle.cert_graph.specs.declared.inventory.Inventory.{Inventory}
use Rattle.cert_graph.specs.declared.inventory.Verdict.{Verdict}
use Rattle.cert_graph.specs.declared.inventory.Verdict.TheVariants.{FirstPath, Pathless, NoCertificate}
use Rattle.cert_graph.specs.declared.reach.Reach.{Reach}
use Rattle.cert_graph.specs.declared.reach.Reach.TheVariants.{No, UpTo, Any}

-- what a verdict says: a path to an anchor, by positions; that there is none; that the item is no certificate
pub data Said : Type 0 where
  path : List ℕ → ℕ → Said
  pathless : Said
  no_certificate : Said

-- What an inventory says: of each item by its position, and in which entries each row differs from the one before it.
pub record Told : Type 0 where
  pub verdicts : List Said
  pub rows : List (List Change)

abbrev pub said_by : Verdict → Said
said_by (FirstPath positions anchor) = path positions.items anchor
said_by Pathless = pathless
said_by NoCertificate = no_certificate

abbrev pub told_by : Inventory → Told
told_by inventory = record { verdicts = map said_by inventory.verdicts.items; rows = map (λ step. step.items) inventory.steps.items }

-- LF and the space
abbrev pub line_feed : ℕ
line_feed = 10

abbrev pub space : ℕ
space = 32

-- the first line: the format's name and version
abbrev pub header : List ℕ
header = codes "certpath evidence 1"

-- positions, each with a space after it
abbrev pub position_words : List ℕ → List ℕ
position_words [] = []
position_words (position ∷ positions) = decimal position ++ space ∷ position_words positions

-- the positions of a path, and its anchor
abbrev pub path_words : List ℕ → ℕ → List ℕ
path_words positions anchor = position_words positions ++ (codes "anchor " ++ decimal anchor)

-- the line of a verdict
abbrev pub verdict_line : Said → List ℕ
verdict_line (path positions anchor) = codes "path " ++ path_words positions anchor
verdict_line pathless = codes "none"
verdict_line no_certificate = codes "no certificate"

abbrev pub reach_words : Reach → List ℕ
reach_words No = codes "no"
reach_words (UpTo n) = codes "upto " ++ decimal n
reach_words Any = codes "any"

-- the line of a change: the position, and what the row holds there
abbrev pub change_line : Change → List ℕ
change_line change = decimal change.position ++ space ∷ reach_words change.reach

-- the line that begins a row
abbrev pub row_line : List ℕ
row_line = codes "row"

-- the lines of a row: the one that begins it, and one for each change
abbrev pub row_lines : List Change → List (List ℕ)
row_lines changes = row_line ∷ map change_line changes

-- all lines after the first
abbrev pub lines_after : List Said → List (List Change) → List (List ℕ)
lines_after verdicts rows = map verdict_line verdicts ++ flat_map row_lines rows

abbrev pub lines_of : Told → List (List ℕ)
lines_of told = header ∷ lines_after told.verdicts told.rows

-- lines, each ended by LF
abbrev pub ended : List (List ℕ) → List ℕ
ended lines = flat_map (λ line. line ++ line_feed ∷ []) lines

-- the text of what an inventory says
abbrev pub evidence : Told → List ℕ
evidence told = ended (lines_of told)

-- numbers as the types of an inventory hold them: positions below 2^64, limits below 2^32
abbrev pub FitsSaid : Said → Type 0
FitsSaid (path positions anchor) = AllByRecursion (λ p. p < 2 ^ 64) positions × (anchor < 2 ^ 64)
FitsSaid pathless = Unit {0}
FitsSaid no_certificate = Unit {0}

abbrev pub FitsReach : Reach → Type 0
FitsReach No = Unit {0}
FitsReach (UpTo n) = n < 2 ^ 32
FitsReach Any = Unit {0}

abbrev pub FitsChange : Change → Type 0
FitsChange change = (change.position < 2 ^ 64) × FitsReach change.reach

-- What the types of an inventory can hold.
pub record Fits (told : Told) : Type 0 where
  pub verdicts : AllByRecursion FitsSaid told.verdicts
  pub rows : AllByRecursion (AllByRecursion FitsChange) told.rows
