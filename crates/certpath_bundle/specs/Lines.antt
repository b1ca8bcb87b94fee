-- The lines of a file: one for each thing that is left out of it. This page is to be believed.
use Rattle.std.specs.Prelude.{ℕ, List, [], ◌++◌, codes, Option, Some, None}
use Rattle.std.specs.List.{flat_map}
use Rattle.std.specs.Fmt.{decimal}
use Rattle.certpath_files.specs.Shapes.{Kind, certificate, list}
use Rattle.certpath_files.specs.Rows.{Spot, file, octet, line, block, Member, Place, Reason, Shown, shown_item, shown_left_out}
use Rattle.certpath_bundle.specs.Names.{shown_name, shown_label}
use Rattle.certpath_bundle.specs.Words.{reason_words}

abbrev pub line_words : ℕ → List ℕ
line_words number = codes " line " ++ decimal number

-- the line at which a block begins, and its label
abbrev pub block_words : ℕ → List ℕ → List ℕ
block_words number label = line_words number ++ (codes " (" ++ (shown_label label ++ codes ")"))

-- where in a file something is: lines count from 1, octets from 0
abbrev pub spot_words : Spot → List ℕ
spot_words file = []
spot_words (octet position) = codes " octet " ++ decimal position
spot_words (line number) = line_words number
spot_words (block number None) = line_words number
spot_words (block number (Some label)) = block_words number label

abbrev pub set_words : Kind → List ℕ
set_words certificate = codes " certificate "
set_words list = codes " list "

-- which element of SignedData it is, by its number in its set, from 0
abbrev pub member_words : Option Member → List ℕ
member_words None = []
member_words (Some member) = set_words member.set ++ decimal member.number

abbrev pub place_words : Place → List ℕ
place_words place = spot_words place.spot ++ member_words place.member

-- `NAME line 5 (CERTIFICATE): not base64; left out`
abbrev pub left_line : List ℕ → Place → Reason → List ℕ
left_line name place reason =
    shown_name name ++ (place_words place ++ (codes ": " ++ (reason_words reason ++ codes "; left out\n")))

abbrev pub row_line : List ℕ → Shown → List ℕ
row_line name (shown_item place kind size) = []
row_line name (shown_left_out place reason) = left_line name place reason

abbrev pub file_lines : List ℕ → List Shown → List ℕ
file_lines name rows = flat_map (row_line name) rows
