-- Text outside of blocks that is no text. This page is to be believed.
use Rattle.std.specs.Prelude.{ℕ, ◌+◌, ◌==◌, nat_le, Bool, true, false, ◌&&◌, ◌||◌, if◌then◌else◌, List, [], ◌∷◌, ◌++◌}
use Rattle.std.specs.List.{list_any}
use Rattle.certpath_pem.specs.Labels.{Boundary, text, begin, end, bad, boundary_of}
use Rattle.certpath_files.specs.Rows.{Row, left_out, at, line, no_text}

-- a control character of ASCII that is no white space
abbrev pub is_no_text : ℕ → Bool
is_no_text octet = nat_le octet 8 || (nat_le 14 octet && nat_le octet 31) || (octet == 127)

abbrev pub is_odd : List ℕ → Bool
is_odd = list_any is_no_text

-- the row of a line, if nothing is open and none was reported since the last boundary
abbrev pub line_rows : Bool → Boundary → List ℕ → ℕ → List Row
line_rows quiet (begin label) octets number = []
line_rows quiet (end label) octets number = []
line_rows quiet bad octets number = []
line_rows true text octets number = []
line_rows false text octets number = if is_odd octets then left_out (at (line number)) no_text ∷ [] else []

-- whether the next lines are within a block, or such a line was reported
abbrev pub quiet_after : Bool → Boundary → List ℕ → Bool
quiet_after quiet text octets = quiet || is_odd octets
quiet_after quiet (begin label) octets = true
quiet_after quiet (end label) octets = false
quiet_after quiet bad octets = false

-- the first such line after each boundary that opens no block, and before the first one
abbrev pub odd_rows : Bool → ℕ → List (List ℕ) → List Row
odd_rows quiet number [] = []
odd_rows quiet number (octets ∷ lines) =
    line_rows quiet (boundary_of octets) octets number ++ odd_rows (quiet_after quiet (boundary_of octets) octets) (number + 1) lines
