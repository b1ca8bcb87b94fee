-- The rows of a block of whose octets only the first ones are kept.
use Rattle.std.specs.Prelude.{ℕ, ◌-◌, ◌==◌, Bool, true, false, not, ◌||◌, List, [], ◌∷◌, ◌++◌, length, take}
use Rattle.base64.specs.GeneralPurpose.{IsBytes}
use Rattle.certpath_pem.specs.Blocks.{Content, octets, unended, headers, empty, no_base64}
use Rattle.certpath_pem.specs.Starts.{Start}
use Rattle.certpath_files.specs.Fronts.{Front, whole, passed, stops, front_of}
use Rattle.certpath_files.specs.Rows as rows
use Rattle.certpath_files.specs.Rows.{Row, Spot, left_out, at}
use Rattle.certpath_files.specs.Sequences.{Wanted, sequence_rows}
use Rattle.certpath_files.specs.Blocks.{after_rows, content_rows}

-- the rows of so many octets by the first ones and what they begin with
abbrev pub begun_rows : Wanted → Bool → Spot → List ℕ → ℕ → Front → List Row
begun_rows wanted may_go_on spot first count (whole size) = sequence_rows wanted spot (take size first) ++ after_rows may_go_on spot (count - size)
begun_rows wanted may_go_on spot first count (passed fault size) = left_out (at spot) (rows.faulty fault) ∷ []
begun_rows wanted may_go_on spot first count (stops fault) = left_out (at spot) (rows.faulty fault) ∷ []

abbrev pub first_rows : Wanted → Bool → Spot → List ℕ → ℕ → List Row
first_rows wanted may_go_on spot first count = begun_rows wanted may_go_on spot first count (front_of first)

abbrev pub rows_by : Wanted → Bool → Spot → ℕ → Content → List Row
rows_by wanted may_go_on spot count (octets first) = first_rows wanted may_go_on spot first count
rows_by wanted may_go_on spot count unended = content_rows wanted may_go_on spot unended
rows_by wanted may_go_on spot count headers = content_rows wanted may_go_on spot headers
rows_by wanted may_go_on spot count empty = content_rows wanted may_go_on spot empty
rows_by wanted may_go_on spot count no_base64 = content_rows wanted may_go_on spot no_base64

abbrev pub start_rows : Wanted → Bool → Spot → Start → List Row
start_rows wanted may_go_on spot start = rows_by wanted may_go_on spot start.count start.content

-- the tag of a constructed element of universal class in the high form, which has any number of
-- octets if it isn't the shortest (X.690, 8.1.2.4)
abbrev pub begins_high : List ℕ → Bool
begins_high [] = false
begins_high (octet ∷ rest) = octet == 63

-- whether the first octets say what all of them begin with
abbrev pub enough_by : ℕ → Content → Bool
enough_by count (octets first) = (count == length first) || not (begins_high first)
enough_by count unended = true
enough_by count headers = true
enough_by count empty = true
enough_by count no_base64 = true

abbrev pub is_enough : Start → Bool
is_enough start = enough_by start.count start.content

-- what is kept are octets
abbrev pub OctetsIn : Content → Type 0
OctetsIn (octets first) = IsBytes first
OctetsIn unended = Unit {0}
OctetsIn headers = Unit {0}
OctetsIn empty = Unit {0}
OctetsIn no_base64 = Unit {0}

abbrev pub HoldsOctets : Start → Type 0
HoldsOctets start = OctetsIn start.content
