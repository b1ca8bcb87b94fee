-- What `certpath_load` returns.
use Rattle.std.specs.Prelude.{◌≡◌, ◌⊎◌, ◌+◌, ℕ, ℤ, Bool, true, false, ◌||◌, if◌then◌else◌, List, [], ◌∷◌, length, count_by, Option, Some, None, is_some}
use Rattle.std.specs.List.{list_any}
use Rattle.certpath_pem.specs.Sources as sources
use Rattle.certpath_pem.specs.Sources.{Source, source_of}
use Rattle.certpath_files.specs.Fronts.{Fault, no_sequence, no_length, too_long, missing, long_form}
use Rattle.certpath_files.specs.Rows as rows
use Rattle.certpath_files.specs.Rows.{Spot, Member, Place, Reason, Shown, shown_item, shown_left_out, Held, report_of}
use Rattle.certpath_files.specs.Shapes as shapes
use Rattle.certpath_files.specs.Shapes.{Kind}
use Rattle.certpath_files.specs.Files.{file_rows}
use Rattle.certpath_c.specs.declared.loading.LeftOut.{LeftOut}
use Rattle.certpath_c.specs.declared.loading.Loaded.{Loaded}
use Rattle.certpath_c.specs.Labels.{label_number}
use Rattle.certpath_c.specs.Status.{done, out_of_memory, too_small}
use Rattle.certpath_c.specs.Writing.{PutsBoth}

-- the line, from 1: of a line, or of the block that begins there; else 0
abbrev pub spot_line : Spot → ℕ
spot_line rows.file = 0
spot_line (rows.octet position) = 0
spot_line (rows.line number) = number
spot_line (rows.block number label) = number

-- the octet, from 0, of a file in DER; else 0
abbrev pub spot_position : Spot → ℕ
spot_position rows.file = 0
spot_position (rows.octet position) = position
spot_position (rows.line number) = 0
spot_position (rows.block number label) = 0

-- the number of a block's label, if that is known; else 0
abbrev pub spot_label : Spot → ℕ
spot_label rows.file = 0
spot_label (rows.octet position) = 0
spot_label (rows.line number) = 0
spot_label (rows.block number None) = 0
spot_label (rows.block number (Some label)) = label_number label

-- CERTPATH_CERTIFICATE, CERTPATH_LIST
abbrev pub kind_number : Kind → ℕ
kind_number shapes.certificate = 1
kind_number shapes.list = 2

-- the set of SignedData, and the place in it; zeros outside of SignedData
abbrev pub member_set : Option Member → ℕ
member_set None = 0
member_set (Some member) = kind_number member.set

abbrev pub member_number : Option Member → ℕ
member_number None = 0
member_number (Some member) = member.number

-- the numbers of the header
abbrev pub fault_number : Fault → ℕ
fault_number no_sequence = 16
fault_number no_length = 17
fault_number too_long = 18
fault_number (missing count) = 19
fault_number long_form = 20

abbrev pub reason_number : Reason → ℕ
reason_number rows.empty_file = 0
reason_number rows.no_form = 1
reason_number rows.wide_text = 2
reason_number (rows.faulty fault) = fault_number fault
reason_number (rows.to_end fault count) = fault_number fault
reason_number rows.no_item = 3
reason_number (rows.behind count) = 4
reason_number rows.no_end = 5
reason_number rows.with_headers = 6
reason_number rows.no_octets = 7
reason_number rows.not_base64 = 8
reason_number rows.other_label = 9
reason_number rows.unknown_label = 10
reason_number rows.stray = 11
reason_number rows.no_boundary = 12
reason_number rows.no_text = 13
reason_number rows.no_signed_data = 14
reason_number rows.no_members = 15

-- how many octets of an element are missing
abbrev pub missing_in : Fault → ℕ
missing_in no_sequence = 0
missing_in no_length = 0
missing_in too_long = 0
missing_in (missing count) = count
missing_in long_form = 0

-- the octets after an item, or those that are missing
abbrev pub count_in : Reason → ℕ
count_in (rows.behind count) = count
count_in (rows.faulty fault) = missing_in fault
count_in (rows.to_end fault count) = missing_in fault
count_in _ = 0

-- the octets that are left out from here on
abbrev pub to_end_in : Reason → ℕ
to_end_in (rows.to_end fault count) = count
to_end_in _ = 0

-- what is left out, as the header has it, after so many items
abbrev pub left_row : ℕ → Place → Reason → LeftOut
left_row before place reason = record {
  line = spot_line place.spot;
  position = spot_position place.spot;
  before = before;
  label = spot_label place.spot;
  set = member_set place.member;
  number = member_number place.member;
  reason = reason_number reason;
  count = count_in reason;
  to_end = to_end_in reason;
}

-- what rows leave out, if so many items are before them
abbrev pub left_rows : ℕ → List Shown → List LeftOut
left_rows before [] = []
left_rows before (shown_item place kind size ∷ more) = left_rows (before + 1) more
left_rows before (shown_left_out place reason ∷ more) = left_row before place reason ∷ left_rows before more

abbrev pub is_item : Shown → Bool
is_item (shown_item place kind size) = true
is_item (shown_left_out place reason) = false

abbrev pub is_no_members : Reason → Bool
is_no_members rows.no_members = true
is_no_members _ = false

-- what is in SignedData, or that it holds nothing
abbrev pub is_signed : Shown → Bool
is_signed (shown_item place kind size) = is_some place.member
is_signed (shown_left_out place reason) = is_no_members reason || is_some place.member

-- the form of a file: PEM, DER, DER with SignedData in it, nothing, or another one
abbrev pub form_number : Source → Bool → ℕ
form_number sources.nothing has_signed = 0
form_number sources.pem has_signed = 1
form_number sources.der has_signed = if has_signed then 3 else 2
form_number sources.utf16 has_signed = 4
form_number sources.other has_signed = 4

-- the items of the file, and what is left out of it, put into the buffers, or not, if they don't
-- fit
pub record AreLoaded (octets : List ℕ) (items items' : List ℕ) (left left' : List LeftOut) (loaded' : Loaded) (fits : Bool) : Type 0 where
  pub report : Held
  pub report_is : report ≡ report_of (file_rows octets)
  pub form : loaded'.form ≡ form_number (source_of octets) (list_any is_signed report.rows)
  pub length_is : loaded'.length ≡ length report.octets
  pub count : loaded'.count ≡ count_by is_item report.rows
  pub left_is : loaded'.left ≡ length (left_rows 0 report.rows)
  pub written : PutsBoth items items' report.octets left left' (left_rows 0 report.rows) fits

abbrev pub LoadAnswer : List ℕ → List ℕ → List ℕ → List LeftOut → List LeftOut → Loaded → Loaded → ℤ → Type 0
LoadAnswer octets items items' left left' loaded loaded' status =
    ((status ≡ done) × AreLoaded octets items items' left left' loaded' true)
    ⊎ ((status ≡ too_small) × AreLoaded octets items items' left left' loaded' false)
    ⊎ ((status ≡ out_of_memory) × (items' ≡ items) × (left' ≡ left) × (loaded' ≡ loaded))
