-- The rows of a table so far, and entries that are no rows.
use Rattle.std.proofs.Common.{◌≡◌, ◌∙◌, refl, ℕ, zero, suc, ◌+◌, ◌<◌, ◌≤◌, List, [], ◌∷◌, ◌++◌, length, map, take, drop, get_or, sym, ap, subst, ◌⊎◌, inl, inr, append_assoc, length-append, arith, Vec, slice_index_or}
use Rattle.std.specs.declared.alloc.Global.{Global}
use Rattle.std.proofs.lemmas.List.{append-nil, length-map, append_cancel_left, take_at, take-append-drop, drop_more}
use Rattle.std.specs.List.{AllByRecursion}
use Rattle.cert_graph.specs.declared.reach.Reach.{Reach}
use Rattle.cert_graph.specs.declared.reach.Reach.TheVariants.{No, UpTo, Any}
use Rattle.certpath_c.specs.Answers.{reach_number, rows_entries, FitsReach, FitsRow, IsWide, AreRowsOf, IsNoReach, AreNoRow, AreNoRows}

pub all_push : {X : Type 0} (P : X → Type 0) (xs : List X) (x : X) → AllByRecursion P xs → P x → AllByRecursion P (xs ++ x ∷ [])
all_push P [] x all here = (here, tt)
all_push P (y ∷ xs) x all here = (all.0, all_push P xs x all.1 here)

-- a number above those of the counts, and below that of any number
pub no_reach : (number : ℕ) → 4294967296 < number → number < 18446744073709551615 → IsNoReach number
no_reach number far below No fits is = let e : 0 ≡ number = is in absurd (omega (arith, e))
no_reach number far below (UpTo n) fits is = let e : n + 1 ≡ number = is in let f : n < 4294967296 = fits in absurd (omega (arith, e, f))
no_reach number far below Any fits is = let e : 18446744073709551615 ≡ number = is in absurd (omega (arith, e))

-- entries of which one is none are no row
pub no_row : (front back : List ℕ) (number : ℕ) → IsNoReach number → AreNoRow (front ++ number ∷ back)
no_row [] back number none [] fits is = let e : [] ≡ number ∷ back = is in cc
no_row [] back number none (r ∷ rs) fits is = let e : reach_number r ∷ map reach_number rs ≡ number ∷ back = is in none r fits.0 (cc)
no_row (x ∷ front) back number none [] fits is = let e : [] ≡ x ∷ (front ++ number ∷ back) = is in cc
no_row (x ∷ front) back number none (r ∷ rs) fits is =
    let e : reach_number r ∷ map reach_number rs ≡ x ∷ (front ++ number ∷ back) = is in
    no_row front back number none rs fits.1 (cc)

pub no_row_at : (entries : List ℕ) (k d : ℕ) → k < length entries → IsNoReach (get_or entries k d) → AreNoRow entries
no_row_at entries k d lt none =
    let here : entries ≡ take k entries ++ get_or entries k d ∷ drop (k + 1) entries = sym (take-append-drop k entries) ∙ ap (λ l. take k entries ++ l) (drop_more entries k d lt) in
    subst AreNoRow (sym here) (no_row (take k entries) (drop (k + 1) entries) (get_or entries k d) none)

-- two lists that are cut after as many elements
pub same_fronts : (a b c d : List ℕ) → a ++ b ≡ c ++ d → length a ≡ length c → a ≡ c
same_fronts a b c d is long = sym (take_at a b (length a) refl) ∙ ap (take (length a)) is ∙ take_at c d (length a) (sym long)

pub same_backs : (a b c d : List ℕ) → a ++ b ≡ c ++ d → length a ≡ length c → b ≡ d
same_backs a b c d is long = append_cancel_left c b d (ap (λ l. l ++ b) (sym (same_fronts a b c d is long)) ∙ is)

-- rows without entries have none
narrow_none : (rows : List (List Reach)) → AllByRecursion (IsWide 0) rows → length (rows_entries rows) ≡ 0
narrow_none [] wide = refl
narrow_none (row ∷ rows) wide =
    let long = length-append (map reach_number row) (rows_entries rows) in
    let mapped = length-map row reach_number in
    let here : length row ≡ 0 = wide.0 in
    let rest = narrow_none rows wide.1 in
    omega (arith, long, mapped, here, rest)

pub no_rows_narrow : (entries : List ℕ) → 0 < length entries → AreNoRows 0 entries
no_rows_narrow entries some rows are = omega (arith, narrow_none rows are.whole, ap length are.entries_are)

-- fewer entries than a row has
pub no_rows_short : (width : ℕ) (entries : List ℕ) → 0 < length entries → length entries < width → AreNoRows width entries
no_rows_short width entries some few [] are = let e : [] ≡ entries = are.entries_are in omega (arith, ap length e)
no_rows_short width entries some few (row ∷ rows) are =
    let long = length-append (map reach_number row) (rows_entries rows) in
    let mapped = length-map row reach_number in
    let here : length row ≡ width = are.whole.0 in
    omega (arith, long, mapped, here, ap length are.entries_are)

pub no_rows_few : (width : ℕ) (entries : List ℕ) → 0 < length entries → (width ≡ 0) ⊎ (length entries < width) → AreNoRows width entries
no_rows_few width entries some (inl none) = subst (λ w. AreNoRows w entries) (sym none) (no_rows_narrow entries some)
no_rows_few width entries some (inr few) = no_rows_short width entries some few

-- as many as a row has, of which one is none
pub no_rows_front : (width : ℕ) (front others : List ℕ) → length front ≡ width → 0 < width → AreNoRow front → AreNoRows width (front ++ others)
no_rows_front width front others long some none [] are = let e : [] ≡ front ++ others = are.entries_are in omega (arith, ap length e, length-append front others)
no_rows_front width front others long some none (row ∷ rows) are =
    let here : length row ≡ width = are.whole.0 in
    let mapped = length-map row reach_number in
    let same : length (map reach_number row) ≡ length front = omega (arith, mapped, here, long) in
    none row are.fit.0 (same_fronts (map reach_number row) (rows_entries rows) front others are.entries_are same)

-- as many as a row has, before what is no rows
pub no_rows_back : (width : ℕ) (front others : List ℕ) → length front ≡ width → 0 < width → AreNoRows width others → AreNoRows width (front ++ others)
no_rows_back width front others long some none [] are = let e : [] ≡ front ++ others = are.entries_are in omega (arith, ap length e, length-append front others)
no_rows_back width front others long some none (row ∷ rows) are =
    let here : length row ≡ width = are.whole.0 in
    let mapped = length-map row reach_number in
    let same : length (map reach_number row) ≡ length front = omega (arith, mapped, here, long) in
    none rows (record { entries_are = same_backs (map reach_number row) (rows_entries rows) front others are.entries_are same; whole = are.whole.1; fit = are.fit.1 })

-- the rows and what is left are all entries; and if what is left is no rows, neither are all
pub record TableSoFar (width : ℕ) (entries rest : List ℕ) (rows : List (List Reach)) : Type 0 where
  pub all : rows_entries rows ++ rest ≡ entries
  pub whole : AllByRecursion (IsWide width) rows
  pub fit : AllByRecursion FitsRow rows
  pub none : AreNoRows width rest → AreNoRows width entries

rows_more : (rows : List (List Reach)) (row : List Reach) → rows_entries (rows ++ row ∷ []) ≡ rows_entries rows ++ map reach_number row
rows_more [] row = append-nil (map reach_number row)
rows_more (r ∷ rs) row = ap (λ l. map reach_number r ++ l) (rows_more rs row) ∙ sym (append_assoc (map reach_number r) (rows_entries rs) (map reach_number row))

pub no_rows_yet : (width : ℕ) (entries : List ℕ) → TableSoFar width entries entries []
no_rows_yet width entries = record { all = refl; whole = tt; fit = tt; none = λ h. h }

pub row_more : (width : ℕ) (entries rest front others : List ℕ) (rows : List (List Reach)) (row : List Reach) → TableSoFar width entries rest rows → rest ≡ front ++ others
    → map reach_number row ≡ front → AllByRecursion FitsReach row → length front ≡ width → 0 < width → TableSoFar width entries others (rows ++ row ∷ [])
row_more width entries rest front others rows row s split is fits long some =
    let read = rows_entries rows in
    record {
      all = ap (λ l. l ++ others) (rows_more rows row ∙ ap (λ f. read ++ f) is) ∙ append_assoc read front others ∙ ap (λ r. read ++ r) (sym split) ∙ s.all;
      whole = all_push (IsWide width) rows row s.whole (sym (length-map row reach_number) ∙ ap length is ∙ long);
      fit = all_push FitsRow rows row s.fit fits;
      none = λ h. s.none (subst (AreNoRows width) (sym split) (no_rows_back width front others long some h));
    }

pub all_rows : (width : ℕ) (entries rest : List ℕ) (rows : List (List Reach)) → TableSoFar width entries rest rows → rest ≡ [] → AreRowsOf width entries rows
all_rows width entries rest rows s none =
    let read = rows_entries rows in
    record { entries_are = sym (append-nil read) ∙ ap (λ r. read ++ r) (sym none) ∙ s.all; whole = s.whole; fit = s.fit }

-- each of some rows has the width that all have
pub wide_at : (width : ℕ) (rows : List (Vec Reach Global)) → AllByRecursion (IsWide width) (map (λ (r : Vec Reach Global). r.items) rows) → (k : ℕ) (d : Vec Reach Global) → k < length rows
    → length (slice_index_or rows k d).items ≡ width
wide_at width [] all k d within = absurd (omega (arith, within))
wide_at width (r ∷ rs) all zero d within = all.0
wide_at width (r ∷ rs) all (suc k) d within = wide_at width rs all.1 k d (omega (arith, within))
