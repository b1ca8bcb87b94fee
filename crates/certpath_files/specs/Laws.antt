-- What the rows of a file keep, in words that share nothing with the reader. This page is to be
-- believed.
use Rattle.std.specs.Prelude.{◌≡◌, ◌≢◌, ℕ, List, [], ◌∷◌, take, Option, Some, None}
use Rattle.std.specs.List.{AllByRecursion}
use Rattle.certpath_pem.specs.Blocks.{Entry, block, stray_end, bad_boundary}
use Rattle.certpath_pem.specs.Sources as sources
use Rattle.certpath_pem.specs.Sources.{label_kind}
use Rattle.certpath_files.specs.Fronts.{Front, whole, passed, stops, front_of}
use Rattle.certpath_files.specs.Rows as rows
use Rattle.certpath_files.specs.Rows.{Row, item, left_out, Spot, Place}
use Rattle.certpath_files.specs.Walks.{walk}
use Rattle.certpath_files.specs.Blocks.{entry_rows}

abbrev pub place_of : Row → Place
place_of (item place kind octets) = place
place_of (left_out place reason) = place

abbrev pub line_of : Spot → Option ℕ
line_of rows.file = None
line_of (rows.octet offset) = None
line_of (rows.line number) = Some number
line_of (rows.block number label) = Some number

-- the number of the line at which an entry begins
abbrev pub number_of : Entry → ℕ
number_of (block label number body is_ended) = number
number_of (stray_end number) = number
number_of (bad_boundary number) = number

-- a row that is at this line
abbrev pub IsAtLine : ℕ → Row → Type 0
IsAtLine number row = line_of (place_of row).spot ≡ Some number

-- an entry has one row at least, and all its rows are at its line
pub record HasItsRows (entry : Entry) : Type 0 where
  pub some : entry_rows entry ≢ []
  pub lines : AllByRecursion (IsAtLine (number_of entry)) (entry_rows entry)

-- a row that shows no label, or a known one
abbrev pub ShowsKnown : Row → Type 0
ShowsKnown row = (number : ℕ) (label : List ℕ) → (place_of row).spot ≡ rows.block number (Some label) → label_kind label ≢ sources.unknown

-- the octets of what octets begin with
abbrev pub piece : List ℕ → Front → List ℕ
piece octets (whole size) = take size octets
piece octets (passed fault size) = take size octets
piece octets (stops fault) = octets

abbrev pub piece_at : ℕ → ℕ → List ℕ → List (List ℕ)
piece_at offset number octets = piece octets (front_of octets) ∷ []

-- the pieces of a DER file, of each of which `stream_rows` has the rows
abbrev pub pieces_of : List ℕ → List (List ℕ)
pieces_of octets = walk front_of piece_at 0 0 0 octets
