-- What the laws of reports rest on.
use Rattle.std.proofs.Common.{◌≡◌, ◌≢◌, ◌∙◌, sym, ap, refl, ℕ, zero, suc, ◌+◌, ◌-◌, ◌==◌, Bool, true, false, List, [], ◌∷◌, ◌++◌, length, take, Option, Some, None}
use Rattle.std.specs.Prelude.{◌&&◌, ◌||◌, if◌then◌else◌}
use Rattle.std.specs.List.{flat_map, AllByRecursion}
use Rattle.certpath_pem.specs.Blocks as blocks
use Rattle.certpath_pem.specs.Sources as sources
use Rattle.certpath_pem.specs.Sources.{Label, label_kind}
use Rattle.certpath_files.specs.Fronts.{Front, whole, passed, stops, size_in, front_of}
use Rattle.certpath_files.specs.Shapes.{Kind, certificate, list, kind_of, is_none}
use Rattle.certpath_files.specs.Signed.{Sets, signed_sets}
use Rattle.certpath_files.specs.Rows as rows
use Rattle.certpath_files.specs.Rows.{Row, item, left_out, Spot, Place, at}
use Rattle.certpath_files.specs.Walks.{walk, go_on, front_rows}
use Rattle.certpath_files.specs.Sequences.{Wanted, one_item, signed_data, item_or_signed_data, item_by, item_rows, member_front, member_place, rows_of_member, member_rows, signed_rows, signed_by, either_by, sequence_rows}
use Rattle.certpath_files.specs.Blocks as files
use Rattle.certpath_files.specs.Blocks.{shown_by, shown_label, after_rows, octet_rows, content_rows, label_rows, entry_rows}
use Rattle.certpath_files.specs.Laws.{place_of, line_of, number_of, IsAtLine, ShowsKnown}

pub all_append : {X : Type 0} (P : X → Type 0) (a b : List X) → AllByRecursion P a → AllByRecursion P b → AllByRecursion P (a ++ b)
all_append P [] b h k = k
all_append P (x ∷ a) b h k = (h.0, all_append P a b h.1 k)

going_on : {X : Type 0} (P : X → Type 0) (size : Option ℕ) (after : ℕ → List X) → ((n : ℕ) → AllByRecursion P (after n)) → AllByRecursion P (go_on size after)
going_on P None after h = tt
going_on P (Some n) after h = h n

-- what holds of the rows of each element holds of the rows of a walk
pub walk_all : {X : Type 0} (P : X → Type 0) (front : List ℕ → Front) (made : ℕ → ℕ → List ℕ → List X) → ((offset number : ℕ) (s : List ℕ) → AllByRecursion P (made offset number s)) → (skip offset number : ℕ) (s : List ℕ) → AllByRecursion P (walk front made skip offset number s)
walk_all P front made h skip offset number [] = tt
walk_all P front made h (suc skip) offset number (o ∷ s) = walk_all P front made h skip (offset + 1) number s
walk_all P front made h zero offset number (o ∷ s) =
    all_append P (made offset number (o ∷ s)) (go_on (size_in (front (o ∷ s))) (λ n. walk front made (n - 1) (offset + 1) (number + 1) s)) (h offset number (o ∷ s))
    (going_on P (size_in (front (o ∷ s))) (λ n. walk front made (n - 1) (offset + 1) (number + 1) s) (λ n. walk_all P front made h (n - 1) (offset + 1) (number + 1) s))

-- a row at a spot
abbrev pub IsAt : Spot → Row → Type 0
IsAt spot row = (place_of row).spot ≡ spot

item_at : (place : Place) (s : List ℕ) (kind : Option Kind) → AllByRecursion (IsAt place.spot) (item_by place s kind)
item_at place s (Some kind) = (refl, tt)
item_at place s None = (refl, tt)

fronts_at : (place : Place) (made : List ℕ → List Row) (s : List ℕ) (front : Front) → ((t : List ℕ) → AllByRecursion (IsAt place.spot) (made t)) → AllByRecursion (IsAt place.spot) (front_rows place made s front)
fronts_at place made s (whole size) h = h (take size s)
fronts_at place made s (passed fault size) h = (refl, tt)
fronts_at place made s (stops fault) h = (refl, tt)

members_at : (spot : Spot) (set : Kind) (s : List ℕ) → AllByRecursion (IsAt spot) (member_rows spot set s)
members_at spot set s =
    walk_all (IsAt spot) member_front (rows_of_member spot set)
    (λ offset number t. fronts_at (member_place spot set number) (item_rows (member_place spot set number)) t (member_front t) (λ u. item_at (member_place spot set number) u (kind_of u)))
    0 0 0 s

if_at : (spot : Spot) (b : Bool) (x y : List Row) → AllByRecursion (IsAt spot) x → AllByRecursion (IsAt spot) y → AllByRecursion (IsAt spot) (if b then x else y)
if_at spot true x y h k = h
if_at spot false x y h k = k

sets_at : (spot : Spot) (sets : Sets) → AllByRecursion (IsAt spot) (signed_rows spot sets)
sets_at spot sets =
    if_at spot (is_none sets.certificates && is_none sets.lists) _ _ (refl, tt)
    (all_append (IsAt spot) (member_rows spot certificate sets.certificates) (member_rows spot list sets.lists) (members_at spot certificate sets.certificates) (members_at spot list sets.lists))

signed_at : (spot : Spot) (reason : rows.Reason) (sets : Option Sets) → AllByRecursion (IsAt spot) (signed_by spot reason sets)
signed_at spot reason None = (refl, tt)
signed_at spot reason (Some sets) = sets_at spot sets

either_at : (spot : Spot) (s : List ℕ) (kind : Option Kind) → AllByRecursion (IsAt spot) (either_by spot s kind)
either_at spot s (Some kind) = (refl, tt)
either_at spot s None = signed_at spot rows.no_item (signed_sets s)

sequence_at : (wanted : Wanted) (spot : Spot) (s : List ℕ) → AllByRecursion (IsAt spot) (sequence_rows wanted spot s)
sequence_at one_item spot s = item_at (at spot) s (kind_of s)
sequence_at signed_data spot s = signed_at spot rows.no_signed_data (signed_sets s)
sequence_at item_or_signed_data spot s = either_at spot s (kind_of s)

block_front_at : (wanted : Wanted) (may_go_on : Bool) (spot : Spot) (s : List ℕ) (front : Front) → AllByRecursion (IsAt spot) (files.front_rows wanted may_go_on spot s front)
block_front_at wanted may_go_on spot s (whole size) =
    all_append (IsAt spot) (sequence_rows wanted spot (take size s)) (after_rows may_go_on spot (length s - size)) (sequence_at wanted spot (take size s))
    (if_at spot (may_go_on || (length s - size == 0)) _ _ tt (refl, tt))
block_front_at wanted may_go_on spot s (passed fault size) = (refl, tt)
block_front_at wanted may_go_on spot s (stops fault) = (refl, tt)

content_at : (wanted : Wanted) (may_go_on : Bool) (spot : Spot) (content : blocks.Content) → AllByRecursion (IsAt spot) (content_rows wanted may_go_on spot content)
content_at wanted may_go_on spot (blocks.octets o) = block_front_at wanted may_go_on spot o (front_of o)
content_at wanted may_go_on spot blocks.unended = (refl, tt)
content_at wanted may_go_on spot blocks.headers = (refl, tt)
content_at wanted may_go_on spot blocks.empty = (refl, tt)
content_at wanted may_go_on spot blocks.no_base64 = (refl, tt)

label_at : (spot : Spot) (content : blocks.Content) (label : Label) → AllByRecursion (IsAt spot) (label_rows spot content label)
label_at spot content sources.one_item = content_at one_item false spot content
label_at spot content sources.trusted = content_at one_item true spot content
label_at spot content sources.signed_data = content_at signed_data false spot content
label_at spot content sources.known = (refl, tt)
label_at spot content sources.unknown = (refl, tt)

-- the spot of an entry
abbrev pub spot_of : blocks.Entry → Spot
spot_of (blocks.block label number body is_ended) = rows.block number (shown_label label)
spot_of (blocks.stray_end number) = rows.line number
spot_of (blocks.bad_boundary number) = rows.line number

pub entry_at : (entry : blocks.Entry) → AllByRecursion (IsAt (spot_of entry)) (entry_rows entry)
entry_at (blocks.block label number body is_ended) = label_at (rows.block number (shown_label label)) (blocks.content_of body is_ended) (label_kind label)
entry_at (blocks.stray_end number) = (refl, tt)
entry_at (blocks.bad_boundary number) = (refl, tt)

pub all_imply : {X : Type 0} (P Q : X → Type 0) (a : List X) → ((x : X) → P x → Q x) → AllByRecursion P a → AllByRecursion Q a
all_imply P Q [] f h = tt
all_imply P Q (x ∷ a) f h = (f x h.0, all_imply P Q a f h.1)

line_of_entry : (entry : blocks.Entry) → line_of (spot_of entry) ≡ Some (number_of entry)
line_of_entry (blocks.block label number body is_ended) = refl
line_of_entry (blocks.stray_end number) = refl
line_of_entry (blocks.bad_boundary number) = refl

pub lines_at : (entry : blocks.Entry) → AllByRecursion (IsAtLine (number_of entry)) (entry_rows entry)
lines_at entry = all_imply (IsAt (spot_of entry)) (IsAtLine (number_of entry)) (entry_rows entry) (λ row e. ap line_of e ∙ line_of_entry entry) (entry_at entry)

-- the label that is shown, if one is
shown_known : (kind : List ℕ → Label) (label shown : List ℕ) (own : Label) → kind label ≡ own → shown_by label own ≡ Some shown → kind shown ≢ sources.unknown
shown_known kind label shown sources.unknown e f = λ g. cc
shown_known kind label shown sources.one_item e f = let same : label ≡ shown = cc in λ g. cc
shown_known kind label shown sources.trusted e f = let same : label ≡ shown = cc in λ g. cc
shown_known kind label shown sources.signed_data e f = let same : label ≡ shown = cc in λ g. cc
shown_known kind label shown sources.known e f = let same : label ≡ shown = cc in λ g. cc

same_label : (a b : ℕ) (x y : Option (List ℕ)) → rows.block a x ≡ rows.block b y → x ≡ y
same_label a b x y e = cc

no_block : (a b : ℕ) (x : Option (List ℕ)) → rows.line a ≡ rows.block b x → ⊥
no_block a b x e = cc

spot_known : (entry : blocks.Entry) (number : ℕ) (label : List ℕ) → spot_of entry ≡ rows.block number (Some label) → label_kind label ≢ sources.unknown
spot_known (blocks.block own line body is_ended) number label e = shown_known label_kind own label (label_kind own) refl (same_label line number (shown_label own) (Some label) e)
spot_known (blocks.stray_end line) number label e = absurd (no_block line number (Some label) e)
spot_known (blocks.bad_boundary line) number label e = absurd (no_block line number (Some label) e)

pub entry_known : (entry : blocks.Entry) → AllByRecursion ShowsKnown (entry_rows entry)
entry_known entry = all_imply (IsAt (spot_of entry)) ShowsKnown (entry_rows entry) (λ row e number label f. spot_known entry number label (sym e ∙ f)) (entry_at entry)

pub entries_known : (entries : List blocks.Entry) → AllByRecursion ShowsKnown (flat_map entry_rows entries)
entries_known [] = tt
entries_known (entry ∷ entries) = all_append ShowsKnown (entry_rows entry) (flat_map entry_rows entries) (entry_known entry) (entries_known entries)
