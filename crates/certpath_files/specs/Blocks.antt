-- The rows of a PEM text: each block and each boundary that isn't one, in order. This page is to be
-- believed.
use Rattle.std.specs.Prelude.{ℕ, ◌-◌, ◌==◌, Bool, true, false, ◌||◌, if◌then◌else◌, List, [], ◌∷◌, ◌++◌, length, take, Option, Some, None}
use Rattle.certpath_pem.specs.Blocks.{Entry, block, stray_end, bad_boundary, Content, octets, unended, headers, empty, no_base64, content_of}
use Rattle.certpath_pem.specs.Sources as sources
use Rattle.certpath_pem.specs.Sources.{Label, label_kind}
use Rattle.certpath_files.specs.Fronts.{Front, whole, passed, stops, front_of}
use Rattle.certpath_files.specs.Rows as rows
use Rattle.certpath_files.specs.Rows.{Row, Spot, left_out, at}
use Rattle.certpath_files.specs.Sequences.{Wanted, one_item, signed_data, sequence_rows}

-- a label is shown if it is known: another one may be part of a key
abbrev pub shown_by : List ℕ → Label → Option (List ℕ)
shown_by label sources.unknown = None
shown_by label sources.one_item = Some label
shown_by label sources.trusted = Some label
shown_by label sources.signed_data = Some label
shown_by label sources.known = Some label

abbrev pub shown_label : List ℕ → Option (List ℕ)
shown_label label = shown_by label (label_kind label)

-- octets after the item count, but for those that a label announces
abbrev pub after_rows : Bool → Spot → ℕ → List Row
after_rows may_go_on spot count = if may_go_on || (count == 0) then [] else left_out (at spot) (rows.behind count) ∷ []

abbrev pub front_rows : Wanted → Bool → Spot → List ℕ → Front → List Row
front_rows wanted may_go_on spot o (whole size) = sequence_rows wanted spot (take size o) ++ after_rows may_go_on spot (length o - size)
front_rows wanted may_go_on spot o (passed fault size) = left_out (at spot) (rows.faulty fault) ∷ []
front_rows wanted may_go_on spot o (stops fault) = left_out (at spot) (rows.faulty fault) ∷ []

-- the rows of the octets that a block holds
abbrev pub octet_rows : Wanted → Bool → Spot → List ℕ → List Row
octet_rows wanted may_go_on spot o = front_rows wanted may_go_on spot o (front_of o)

abbrev pub content_rows : Wanted → Bool → Spot → Content → List Row
content_rows wanted may_go_on spot (octets o) = octet_rows wanted may_go_on spot o
content_rows wanted may_go_on spot unended = left_out (at spot) rows.no_end ∷ []
content_rows wanted may_go_on spot headers = left_out (at spot) rows.with_headers ∷ []
content_rows wanted may_go_on spot empty = left_out (at spot) rows.no_octets ∷ []
content_rows wanted may_go_on spot no_base64 = left_out (at spot) rows.not_base64 ∷ []

-- by what the label says that the block holds
abbrev pub label_rows : Spot → Content → Label → List Row
label_rows spot content sources.one_item = content_rows one_item false spot content
label_rows spot content sources.trusted = content_rows one_item true spot content
label_rows spot content sources.signed_data = content_rows signed_data false spot content
label_rows spot content sources.known = left_out (at spot) rows.other_label ∷ []
label_rows spot content sources.unknown = left_out (at spot) rows.unknown_label ∷ []

abbrev pub block_rows : List ℕ → ℕ → Content → List Row
block_rows label number content = label_rows (rows.block number (shown_label label)) content (label_kind label)

-- the rows of an entry of the report of the text
abbrev pub entry_rows : Entry → List Row
entry_rows (block label number body is_ended) = block_rows label number (content_of body is_ended)
entry_rows (stray_end number) = left_out (at (rows.line number)) rows.stray ∷ []
entry_rows (bad_boundary number) = left_out (at (rows.line number)) rows.no_boundary ∷ []
