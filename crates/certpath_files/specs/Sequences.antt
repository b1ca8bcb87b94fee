-- The rows of a SEQUENCE, and of SignedData. This page is to be believed.
use Rattle.std.specs.Prelude.{ℕ, ◌-◌, ◌&&◌, if◌then◌else◌, List, [], ◌∷◌, ◌++◌, length, Option, Some, None}
use Rattle.certpath_files.specs.Parts.{Part, strict_part_at}
use Rattle.certpath_files.specs.Fronts.{Front, whole, passed, stops, no_sequence, Fault, front_of}
use Rattle.certpath_files.specs.Shapes.{Kind, certificate, list, kind_of, is_none}
use Rattle.certpath_files.specs.Signed.{Sets, signed_sets}
use Rattle.certpath_files.specs.Rows.{Row, item, left_out, Place, Spot, octet, at, Reason, no_item, no_signed_data, no_members}
use Rattle.certpath_files.specs.Walks.{walk, front_rows}

-- an item by its shape, or none
abbrev pub item_by : Place → List ℕ → Option Kind → List Row
item_by place octets (Some kind) = item place kind octets ∷ []
item_by place octets None = left_out place no_item ∷ []

abbrev pub item_rows : Place → List ℕ → List Row
item_rows place octets = item_by place octets (kind_of octets)

-- what the octets of a set begin with: other choices than a SEQUENCE are passed over (RFC 5652,
-- 10.2.1 and 10.2.2)
abbrev pub other_by : List ℕ → Fault → Option Part → Front
other_by octets fault None = stops fault
other_by octets fault (Some part) = passed no_sequence (length octets - length part.rest)

abbrev pub member_by : List ℕ → Front → Front
member_by octets (whole size) = whole size
member_by octets (passed fault size) = passed fault size
member_by octets (stops fault) = other_by octets fault (strict_part_at octets)

abbrev pub member_front : List ℕ → Front
member_front octets = member_by octets (front_of octets)

abbrev pub member_place : Spot → Kind → ℕ → Place
member_place spot set number = record { spot = spot; member = Some (record { set = set; number = number }) }

abbrev pub rows_of_member : Spot → Kind → ℕ → ℕ → List ℕ → List Row
rows_of_member spot set offset number octets =
    front_rows (member_place spot set number) (item_rows (member_place spot set number)) octets (member_front octets)

-- the rows of a set's content
abbrev pub member_rows : Spot → Kind → List ℕ → List Row
member_rows spot set content = walk member_front (rows_of_member spot set) 0 0 0 content

-- the rows of SignedData: its certificates, then its lists
abbrev pub signed_rows : Spot → Sets → List Row
signed_rows spot sets =
    if is_none sets.certificates && is_none sets.lists then left_out (at spot) no_members ∷ []
    else member_rows spot certificate sets.certificates ++ member_rows spot list sets.lists

abbrev pub signed_by : Spot → Reason → Option Sets → List Row
signed_by spot reason None = left_out (at spot) reason ∷ []
signed_by spot reason (Some sets) = signed_rows spot sets

abbrev pub either_by : Spot → List ℕ → Option Kind → List Row
either_by spot octets (Some kind) = item (at spot) kind octets ∷ []
either_by spot octets None = signed_by spot no_item (signed_sets octets)

-- what is looked for in a SEQUENCE
pub data Wanted : Type 0 where
  one_item : Wanted
  signed_data : Wanted
  item_or_signed_data : Wanted

abbrev pub sequence_rows : Wanted → Spot → List ℕ → List Row
sequence_rows one_item spot octets = item_rows (at spot) octets
sequence_rows signed_data spot octets = signed_by spot no_signed_data (signed_sets octets)
sequence_rows item_or_signed_data spot octets = either_by spot octets (kind_of octets)

-- the rows of a DER file, whose elements are one after another
abbrev pub rows_at : ℕ → ℕ → List ℕ → List Row
rows_at offset number octets = front_rows (at (octet offset)) (sequence_rows item_or_signed_data (octet offset)) octets (front_of octets)

abbrev pub stream_rows : List ℕ → List Row
stream_rows octets = walk front_of rows_at 0 0 0 octets
