-- No entry and no element is without a row.
use Rattle.std.proofs.Common.{◌≢◌, refl, ℕ, ◌-◌, Bool, true, false, List, [], ◌∷◌, ◌++◌, length, take, Option, Some, None}
use Rattle.certpath_pem.specs.Blocks as blocks
use Rattle.certpath_pem.specs.Sources as sources
use Rattle.certpath_pem.specs.Sources.{Label, label_kind}
use Rattle.certpath_files.specs.Fronts.{Front, whole, passed, stops, front_of}
use Rattle.certpath_files.specs.Shapes.{Kind, certificate, list, kind_of}
use Rattle.certpath_files.specs.Signed.{Sets, signed_sets}
use Rattle.certpath_files.specs.Rows as rows
use Rattle.certpath_files.specs.Rows.{Row, left_out, Spot, Place, at, octet}
use Rattle.certpath_files.specs.Walks.{front_rows}
use Rattle.certpath_files.specs.Sequences.{Wanted, one_item, signed_data, item_or_signed_data, item_by, item_rows, member_front, member_place, rows_of_member, member_rows, signed_rows, signed_by, either_by, sequence_rows, rows_at}
use Rattle.certpath_files.specs.Blocks as files
use Rattle.certpath_files.specs.Blocks.{shown_label, after_rows, content_rows, label_rows, entry_rows}

one_more : (row : Row) (s : List Row) → row ∷ s ≢ []
one_more row s e = cc

more_some : (a b : List Row) → a ≢ [] → a ++ b ≢ []
more_some [] b n = absurd (n refl)
more_some (row ∷ a) b n = one_more row (a ++ b)

item_some : (place : Place) (s : List ℕ) (kind : Option Kind) → item_by place s kind ≢ []
item_some place s (Some kind) = one_more _ _
item_some place s None = one_more _ _

fronts_some : (place : Place) (made : List ℕ → List Row) (s : List ℕ) (front : Front) → ((t : List ℕ) → made t ≢ []) → front_rows place made s front ≢ []
fronts_some place made s (whole size) h = h (take size s)
fronts_some place made s (passed fault size) h = one_more _ _
fronts_some place made s (stops fault) h = one_more _ _

members_some : (spot : Spot) (set : Kind) (o : ℕ) (s : List ℕ) → member_rows spot set (o ∷ s) ≢ []
members_some spot set o s =
    more_some (rows_of_member spot set 0 0 (o ∷ s)) _
    (fronts_some (member_place spot set 0) (item_rows (member_place spot set 0)) (o ∷ s) (member_front (o ∷ s)) (λ t. item_some (member_place spot set 0) t (kind_of t)))

sets_some : (spot : Spot) (certificates lists : List ℕ) → signed_rows spot (record { certificates = certificates; lists = lists }) ≢ []
sets_some spot [] [] = one_more _ _
sets_some spot [] (o ∷ s) = members_some spot list o s
sets_some spot (o ∷ s) lists = more_some (member_rows spot certificate (o ∷ s)) (member_rows spot list lists) (members_some spot certificate o s)

signed_some : (spot : Spot) (reason : rows.Reason) (sets : Option Sets) → signed_by spot reason sets ≢ []
signed_some spot reason None = one_more _ _
signed_some spot reason (Some sets) = sets_some spot sets.certificates sets.lists

either_some : (spot : Spot) (s : List ℕ) (kind : Option Kind) → either_by spot s kind ≢ []
either_some spot s (Some kind) = one_more _ _
either_some spot s None = signed_some spot rows.no_item (signed_sets s)

sequence_some : (wanted : Wanted) (spot : Spot) (s : List ℕ) → sequence_rows wanted spot s ≢ []
sequence_some one_item spot s = item_some (at spot) s (kind_of s)
sequence_some signed_data spot s = signed_some spot rows.no_signed_data (signed_sets s)
sequence_some item_or_signed_data spot s = either_some spot s (kind_of s)

block_front_some : (wanted : Wanted) (may_go_on : Bool) (spot : Spot) (s : List ℕ) (front : Front) → files.front_rows wanted may_go_on spot s front ≢ []
block_front_some wanted may_go_on spot s (whole size) = more_some (sequence_rows wanted spot (take size s)) (after_rows may_go_on spot (length s - size)) (sequence_some wanted spot (take size s))
block_front_some wanted may_go_on spot s (passed fault size) = one_more _ _
block_front_some wanted may_go_on spot s (stops fault) = one_more _ _

content_some : (wanted : Wanted) (may_go_on : Bool) (spot : Spot) (content : blocks.Content) → content_rows wanted may_go_on spot content ≢ []
content_some wanted may_go_on spot (blocks.octets o) = block_front_some wanted may_go_on spot o (front_of o)
content_some wanted may_go_on spot blocks.unended = one_more _ _
content_some wanted may_go_on spot blocks.headers = one_more _ _
content_some wanted may_go_on spot blocks.empty = one_more _ _
content_some wanted may_go_on spot blocks.no_base64 = one_more _ _

label_some : (spot : Spot) (content : blocks.Content) (label : Label) → label_rows spot content label ≢ []
label_some spot content sources.one_item = content_some one_item false spot content
label_some spot content sources.trusted = content_some one_item true spot content
label_some spot content sources.signed_data = content_some signed_data false spot content
label_some spot content sources.known = one_more _ _
label_some spot content sources.unknown = one_more _ _

pub entry_some : (entry : blocks.Entry) → entry_rows entry ≢ []
entry_some (blocks.block label number body is_ended) = label_some (rows.block number (shown_label label)) (blocks.content_of body is_ended) (label_kind label)
entry_some (blocks.stray_end number) = one_more _ _
entry_some (blocks.bad_boundary number) = one_more _ _

pub element_some : (offset number : ℕ) (s : List ℕ) → rows_at offset number s ≢ []
element_some offset number s = fronts_some (at (octet offset)) (sequence_rows item_or_signed_data (octet offset)) s (front_of s) (sequence_some item_or_signed_data (octet offset))
