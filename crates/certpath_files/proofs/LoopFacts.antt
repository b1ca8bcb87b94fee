-- One more step of the loops that add rows: what is held, with the rows that are still to come, stays the same.
use Rattle.std.proofs.Common.{◌≡◌, ◌≢◌, ◌∙◌, sym, ap, refl, ℕ, ◌+◌, ◌-◌, ◌<◌, ◌≤◌, Bool, true, false, List, [], ◌∷◌, ◌++◌, length, take, drop, Option, Some, None, arith, length-drop, length-append, inl, inr}
use Rattle.std.proofs.lemmas.List.{take_all}
use Rattle.std.specs.Prelude.{◌&&◌, ◌==◌, if◌then◌else◌, IfSome, OnOk, Result, Ok, Err, ◌⊎◌}
use Rattle.std.specs.List.{flat_map}
use Rattle.certpath_pem.specs.Lines.{lines_of}
use Rattle.certpath_pem.specs.Labels.{boundary_of}
use Rattle.certpath_pem.specs.Blocks as blocks
use Rattle.certpath_pem.specs.Reading.{ReadsLine}
use Rattle.certpath_files.specs.Fronts.{Front, whole, size_in, front_of}
use Rattle.certpath_files.specs.Shapes.{certificate, list, is_none}
use Rattle.certpath_files.specs.Signed.{Sets}
use Rattle.certpath_files.specs.Rows.{Row, left_out, Spot, at, no_members, Held, added}
use Rattle.certpath_files.specs.Walks.{walk}
use Rattle.certpath_files.specs.Sequences.{Wanted, member_rows, signed_rows, sequence_rows}
use Rattle.certpath_files.specs.Blocks.{after_rows, entry_rows}
use Rattle.certpath_files.specs.Firsts.{begun_rows, first_rows}
use Rattle.certpath_files.specs.Odd.{line_rows, quiet_after, odd_rows}
use Rattle.certpath_files.proofs.AddFacts.{added-added, added-none, in_two}
use Rattle.certpath_files.proofs.WalkFacts.{walk_on, walk_end}

-- rows that come next, and those after them
pub more_added : (old new goal : Held) (all rows rest : List Row) → all ≡ rows ++ rest → new ≡ added old rows → added old all ≡ goal → added new rest ≡ goal
more_added old new goal all rows rest e f g = ap (λ z. added z rest) f ∙ added-added old rows rest ∙ ap (added old) (sym e) ∙ g

-- no rows are left
pub all_added : (old goal : Held) (all : List Row) → all ≡ [] → added old all ≡ goal → old ≡ goal
all_added old goal all e g = sym (added-none old) ∙ ap (added old) (sym e) ∙ g

-- the last rows
pub last_added : (old new goal : Held) (all rows : List Row) → all ≡ rows → new ≡ added old rows → added old all ≡ goal → new ≡ goal
last_added old new goal all rows e f g = f ∙ ap (added old) (sym e) ∙ g

pub walk_step : (front : List ℕ → Front) (rows : ℕ → ℕ → List ℕ → List Row) (content rest next : List ℕ) (number size : ℕ) (old new goal : Held) → next ≡ drop size rest → size_in (front rest) ≡ Some size
    → (0 < size) × (size ≤ length rest) → length rest ≤ length content
    → new ≡ added old (rows (length content - length rest) number rest) → added old (walk front rows 0 (length content - length rest) number rest) ≡ goal
    → added new (walk front rows 0 (length content - length next) (number + 1) next) ≡ goal
walk_step front rows content rest next number size old new goal n e h k f g =
    let offset : length content - length (drop size rest) ≡ length content - length rest + size = omega (arith, length-drop size rest, h.0, h.1) in
    ap (λ z. added new (walk front rows 0 (length content - length z) (number + 1) z)) n
    ∙ ap (λ n. added new (walk front rows 0 n (number + 1) (drop size rest))) offset
    ∙ more_added old new goal _ _ _ (walk_on front rows (length content - length rest) number size rest e h.0 h.1) f g

-- a size that is known is within the octets
pub within_at : (found : Option ℕ) (size most : ℕ) → found ≡ Some size → IfSome found (λ n. (0 < n) × (n ≤ most)) → (0 < size) × (size ≤ most)
within_at found size most e h = rw e at h

pub shorter_by : (next rest : List ℕ) (size : ℕ) → next ≡ drop size rest → 0 < size → size ≤ length rest → length next + 1 ≤ length rest
shorter_by next rest size e p h = omega (arith, ap length e, length-drop size rest)

pub some_there : (s : List ℕ) → (length s == 0) ≡ false → s ≢ []
some_there [] e = absurd (let f : true ≡ false = e in cc)
some_there (a ∷ s) e = λ f. cc

pub on_ok : {T E : Type 0} (r : Result T E) (P Q : Type 0) → OnOk r P → (P → Q) → OnOk r Q
on_ok (Ok x) P Q h f = f h
on_ok (Err e) P Q h f = tt

-- SignedData with some certificate or some list
certificates_there : (s t : List ℕ) → (length s == 0) ≡ false → (is_none s && is_none t) ≡ false
certificates_there [] t e = absurd (let f : true ≡ false = e in cc)
certificates_there (a ∷ s) t e = refl

lists_there : (s t : List ℕ) → (length t == 0) ≡ false → (is_none s && is_none t) ≡ false
lists_there s [] e = absurd (let f : true ≡ false = e in cc)
lists_there [] (a ∷ t) e = refl
lists_there (b ∷ s) (a ∷ t) e = refl

both_sets : (spot : Spot) (sets : Sets) → (is_none sets.certificates && is_none sets.lists) ≡ false → signed_rows spot sets ≡ member_rows spot certificate sets.certificates ++ member_rows spot list sets.lists
both_sets spot sets e =
    ap (λ (b : Bool). if b then left_out (at spot) no_members ∷ [] else (member_rows spot certificate sets.certificates ++ member_rows spot list sets.lists)) e

pub sets_added : (first second third : Held) (spot : Spot) (sets : Sets) → ((length sets.certificates == 0) ≡ false) ⊎ ((length sets.lists == 0) ≡ false) → second ≡ added first (member_rows spot certificate sets.certificates)
    → third ≡ added second (member_rows spot list sets.lists) → third ≡ added first (signed_rows spot sets)
sets_added first second third spot sets (inl e) f g =
    in_two first second third _ _ f g ∙ ap (added first) (sym (both_sets spot sets (certificates_there sets.certificates sets.lists e)))
sets_added first second third spot sets (inr e) f g =
    in_two first second third _ _ f g ∙ ap (added first) (sym (both_sets spot sets (lists_there sets.certificates sets.lists e)))

-- the octets of a block that begin with a whole SEQUENCE
pub octets_added : (first second third : Held) (wanted : Wanted) (may_go_on : Bool) (spot : Spot) (o front : List ℕ) (count size : ℕ) → whole size ≡ front_of o → second ≡ added first (sequence_rows wanted spot front) → front ≡ take size o
    → third ≡ added second (after_rows may_go_on spot (count - size)) → third ≡ added first (first_rows wanted may_go_on spot o count)
octets_added first second third wanted may_go_on spot o front count size e f n g =
    in_two first second third _ _ f g
    ∙ ap (λ z. added first (sequence_rows wanted spot z ++ after_rows may_go_on spot (count - size))) n
    ∙ ap (λ z. added first (begun_rows wanted may_go_on spot o count z)) e

pub walk_stop : (front : List ℕ → Front) (rows : ℕ → ℕ → List ℕ → List Row) (offset number : ℕ) (rest : List ℕ) (old new goal : Held) → rest ≢ [] → size_in (front rest) ≡ None
    → new ≡ added old (rows offset number rest) → added old (walk front rows 0 offset number rest) ≡ goal → new ≡ goal
walk_stop front rows offset number rest old new goal n e f g = last_added old new goal _ _ (walk_end front rows offset number rest n e) f g

pub walk_done : (front : List ℕ → Front) (rows : ℕ → ℕ → List ℕ → List Row) (offset number : ℕ) (rest : List ℕ) (old goal : Held) → rest ≡ [] → added old (walk front rows 0 offset number rest) ≡ goal → old ≡ goal
walk_done front rows offset number rest old goal e g = all_added old goal _ (ap (walk front rows 0 offset number) e) g

pub entries_step : (old new goal : Held) (left next : List blocks.Entry) (entry : blocks.Entry) → left ≡ entry ∷ next → new ≡ added old (entry_rows entry) → added old (flat_map entry_rows left) ≡ goal → added new (flat_map entry_rows next) ≡ goal
entries_step old new goal left next entry e f g = more_added old new goal _ (entry_rows entry) (flat_map entry_rows next) (ap (flat_map entry_rows) e) f g

pub entries_done : (old goal : Held) (left : List blocks.Entry) → left ≡ [] → added old (flat_map entry_rows left) ≡ goal → old ≡ goal
entries_done old goal left e g = all_added old goal _ (ap (flat_map entry_rows) e) g

-- a text has this line first
pub first_line : (octets line behind : List ℕ) → ReadsLine octets line behind → lines_of octets ≡ line ∷ lines_of behind
first_line octets line behind r =
    let all : take (length behind) behind ≡ behind = take_all (length behind) behind (omega arith) in
    ap lines_of r.whole ∙ ap (λ z. lines_of (r.window ++ z)) (sym all) ∙ r.lines (length behind) ∙ ap (λ z. line ∷ lines_of z) all

some_long : (s : List ℕ) → s ≢ [] → 0 < length s
some_long [] n = absurd (n refl)
some_long (a ∷ s) n = omega arith

pub line_shorter : (octets line behind : List ℕ) → ReadsLine octets line behind → length behind < length octets
line_shorter octets line behind r = omega (arith, some_long r.window r.some, ap length r.whole, length-append r.window behind)

pub lines_step : (old new goal : Held) (rest line after : List ℕ) (quiet next : Bool) (number : ℕ) → ReadsLine rest line after → next ≡ quiet_after quiet (boundary_of line) line → new ≡ added old (line_rows quiet (boundary_of line) line number)
    → added old (odd_rows quiet number (lines_of rest)) ≡ goal → added new (odd_rows next (number + 1) (lines_of after)) ≡ goal
lines_step old new goal rest line after quiet next number r e f g =
    ap (λ q. added new (odd_rows q (number + 1) (lines_of after))) e
    ∙ more_added old new goal _ (line_rows quiet (boundary_of line) line number) _ (ap (odd_rows quiet number) (first_line rest line after r)) f g

pub lines_done : (old goal : Held) (rest : List ℕ) (quiet : Bool) (number : ℕ) → rest ≡ [] → added old (odd_rows quiet number (lines_of rest)) ≡ goal → old ≡ goal
lines_done old goal rest quiet number e g = all_added old goal _ (ap (λ s. odd_rows quiet number (lines_of s)) e) g
