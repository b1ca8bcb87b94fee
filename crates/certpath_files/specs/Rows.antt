-- The rows of a report on a file. This page is to be believed.
use Rattle.std.specs.Prelude.{ℕ, List, [], ◌∷◌, ◌++◌, length, map, Option, None}
use Rattle.certpath_files.specs.Fronts.{Fault}
use Rattle.certpath_files.specs.Shapes.{Kind}

-- where in a file something is
pub data Spot : Type 0 where
  -- the file as a whole
  file : Spot
  -- what begins at this octet, from 0
  octet : ℕ → Spot
  -- the line of this number, from 1
  line : ℕ → Spot
  -- the block that begins at the line of this number, and its label, if that may be shown
  block : ℕ → Option (List ℕ) → Spot

-- an element of a set of SignedData, by its number there, from 0
pub record Member : Type 0 where
  pub set : Kind
  pub number : ℕ

pub record Place : Type 0 where
  pub spot : Spot
  pub member : Option Member

pub data Reason : Type 0 where
  empty_file : Reason
  no_form : Reason
  wide_text : Reason
  faulty : Fault → Reason
  to_end : Fault → ℕ → Reason
  no_item : Reason
  behind : ℕ → Reason
  no_end : Reason
  with_headers : Reason
  no_octets : Reason
  not_base64 : Reason
  other_label : Reason
  unknown_label : Reason
  stray : Reason
  no_boundary : Reason
  no_text : Reason
  no_signed_data : Reason
  no_members : Reason

pub data Row : Type 0 where
  -- an item that goes out: where it is, what it is, its octets
  item : Place → Kind → List ℕ → Row
  -- what is left out, and why
  left_out : Place → Reason → Row

-- the place of a spot itself
abbrev pub at : Spot → Place
at spot = record { spot = spot; member = None }

-- the octets of the items, one right after the other
abbrev pub items_in : List Row → List ℕ
items_in [] = []
items_in (item place kind octets ∷ rows) = octets ++ items_in rows
items_in (left_out place reason ∷ rows) = items_in rows

-- a row without the octets of its item, of which the number is kept
pub data Shown : Type 0 where
  shown_item : Place → Kind → ℕ → Shown
  shown_left_out : Place → Reason → Shown

abbrev pub shown : Row → Shown
shown (item place kind octets) = shown_item place kind (length octets)
shown (left_out place reason) = shown_left_out place reason

-- a report: the items' octets, and the rows
pub record Held : Type 0 where
  pub octets : List ℕ
  pub rows : List Shown

abbrev pub added : Held → List Row → Held
added held rows = record { octets = held.octets ++ items_in rows; rows = held.rows ++ map shown rows }

abbrev pub report_of : List Row → Held
report_of rows = record { octets = items_in rows; rows = map shown rows }
