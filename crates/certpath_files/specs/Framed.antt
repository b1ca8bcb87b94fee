-- The items of a report are items of bundles. This page is to be believed.
use Rattle.std.specs.Prelude.{◌≡◌, ℕ, ◌≤◌, List, [], ◌∷◌, length, take, drop}
use Rattle.cert_framing.specs.Framing.{IsItem}
use Rattle.certpath_files.specs.Fronts.{Front, whole, passed, stops, most}
use Rattle.certpath_files.specs.Rows.{Shown, shown_item, shown_left_out}

-- the octets are those of the items of these rows, one right after the other: each is one DER item
-- of as many octets as its row says
abbrev pub AreItems : List Shown → List ℕ → Type 0
AreItems [] octets = octets ≡ []
AreItems (shown_item place kind size ∷ rows) octets = (size ≤ length octets) × IsItem most (take size octets) × AreItems rows (drop size octets)
AreItems (shown_left_out place reason ∷ rows) octets = AreItems rows octets

-- what octets begin with is an item, if it is a whole SEQUENCE
abbrev pub IsItemIfWhole : Front → List ℕ → Type 0
IsItemIfWhole (whole size) octets = IsItem most (take size octets)
IsItemIfWhole (passed fault size) octets = Unit {0}
IsItemIfWhole (stops fault) octets = Unit {0}
