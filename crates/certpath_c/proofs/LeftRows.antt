-- The rows of what is left out so far, and rows seen through what they hold.
use Rattle.std.proofs.Common.{◌≡◌, ◌∙◌, refl, sym, ap, ℕ, ◌+◌, ◌<◌, ◌≤◌, Bool, cond, add-zero, List, [], ◌∷◌, ◌++◌, length, map, drop, get_or, append_assoc}
use Rattle.std.specs.Prelude.{◌||◌}
use Rattle.std.specs.List.{list_any, count_by, fold}
use Rattle.std.proofs.lemmas.List.{append-nil, drop_all, drop_more}
use Rattle.certpath_files.specs.Rows.{Shown, shown_item, shown_left_out}
use Rattle.certpath_files.specs.RowViews.{row_view}
use Rattle.certpath_files.specs.declared.rows.Row.{Row}
use Rattle.certpath_c.specs.declared.loading.LeftOut.{LeftOut}
use Rattle.certpath_c.specs.Loading.{is_item, left_row, left_rows}

-- the items up to a row, of so many before it
abbrev pub with_it : ℕ → Shown → ℕ
with_it before row = before + cond (is_item row) 1 0

left_cons : (before : ℕ) (s : Shown) (rest : List Shown) → left_rows before (s ∷ rest) ≡ left_rows before (s ∷ []) ++ left_rows (with_it before s) rest
left_cons before (shown_item place kind size) rest = refl
left_cons before (shown_left_out place reason) rest = ap (λ n. left_row before place reason ∷ left_rows n rest) (sym (add-zero before))

-- the rows of what is left out so far and those that are left are all rows, and no more items were counted than rows were seen
pub record LeftSoFar (rows : List Row) (left : List LeftOut) (before i : ℕ) : Type 0 where
  pub all : left ++ left_rows before (map row_view (drop i rows)) ≡ left_rows 0 (map row_view rows)
  pub few : before ≤ i

pub left_more : (rows : List Row) (old new : List LeftOut) (before after i : ℕ) (d : Row) → i < length rows → new ≡ old ++ left_rows before (row_view (get_or rows i d) ∷ [])
    → after ≡ with_it before (row_view (get_or rows i d)) → after ≤ i + 1 → LeftSoFar rows old before i → LeftSoFar rows new after (i + 1)
left_more rows old new before after i d lt is counted few so_far =
    let row = row_view (get_or rows i d) in
    let others = map row_view (drop (i + 1) rows) in
    let one = left_rows before (row ∷ []) in
    let rest = left_rows after others in
    let here : left_rows before (map row_view (drop i rows)) ≡ one ++ rest =
    ap (λ l. left_rows before (map row_view l)) (drop_more rows i d lt) ∙ left_cons before row others ∙ ap (λ n. one ++ left_rows n others) (sym counted) in
    record { all = ap (λ l. l ++ rest) is ∙ append_assoc old one rest ∙ ap (λ l. old ++ l) (sym here) ∙ so_far.all; few = few }

pub left_all : (rows : List Row) (left : List LeftOut) (before i : ℕ) → length rows ≤ i → LeftSoFar rows left before i → left ≡ left_rows 0 (map row_view rows)
left_all rows left before i le so_far = sym (append-nil left) ∙ ap (λ l. left ++ left_rows before (map row_view l)) (sym (drop_all i rows le)) ∙ so_far.all

fold_map : {A B : Type 0} (g : ℕ → B → ℕ) (f : A → B) (so_far : ℕ) (xs : List A) → fold g so_far (map f xs) ≡ fold (λ n x. g n (f x)) so_far xs
fold_map g f so_far [] = refl
fold_map g f so_far (x ∷ xs) = fold_map g f (g so_far (f x)) xs

pub count_map : {A B : Type 0} (p : B → Bool) (f : A → B) (xs : List A) → count_by p (map f xs) ≡ count_by (λ x. p (f x)) xs
count_map p f xs = fold_map (λ n x. n + cond (p x) 1 0) f 0 xs

pub any_map : {A B : Type 0} (p : B → Bool) (f : A → B) (xs : List A) → list_any p (map f xs) ≡ list_any (λ x. p (f x)) xs
any_map p f [] = refl
any_map p f (x ∷ xs) = ap (λ b. p (f x) || b) (any_map p f xs)
