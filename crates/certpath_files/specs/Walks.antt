-- Elements that are one after another in octets, and the rows of each. This page is to be
-- believed.
use Rattle.std.specs.Prelude.{ℕ, zero, suc, ◌+◌, ◌-◌, List, [], ◌∷◌, ◌++◌, length, take, Option, Some, None}
use Rattle.certpath_files.specs.Fronts.{Front, whole, passed, stops, size_in}
use Rattle.certpath_files.specs.Rows.{Row, left_out, Place, faulty, to_end}

abbrev pub go_on : {X : Type 0} → Option ℕ → (ℕ → List X) → List X
go_on None after = []
go_on (Some size) after = after size

-- What octets begin with is said by `front`, and its rows by `rows`, from its offset, its number
-- and the octets from there on. After it the walk goes on, if its size is known. The first
-- number says how many octets are still to be passed over.
abbrev pub walk : {X : Type 0} → (List ℕ → Front) → (ℕ → ℕ → List ℕ → List X) → ℕ → ℕ → ℕ → List ℕ → List X
walk front rows skip offset number [] = []
walk front rows (suc skip) offset number (octet ∷ octets) = walk front rows skip (offset + 1) number octets
walk front rows zero offset number (octet ∷ octets) =
    rows offset number (octet ∷ octets)
    ++ go_on (size_in (front (octet ∷ octets))) (λ size. walk front rows (size - 1) (offset + 1) (number + 1) octets)

-- the rows of what octets begin with; `rows` has those of a whole SEQUENCE
abbrev pub front_rows : Place → (List ℕ → List Row) → List ℕ → Front → List Row
front_rows place rows octets (whole size) = rows (take size octets)
front_rows place rows octets (passed fault size) = left_out place (faulty fault) ∷ []
front_rows place rows octets (stops fault) = left_out place (to_end fault (length octets)) ∷ []
