-- Rows by their changes, one change and one row after the other.
use Rattle.std.proofs.Common.{◌≡◌, ℕ, zero, suc, ◌+◌, ◌<◌, ◌≤◌, List, [], ◌∷◌, ◌++◌, length, take, drop, replicate, get_or, set, map, Vec, Global, ap, arith, sym, ◌∙◌, refl, append_assoc}
use Rattle.std.proofs.lemmas.List.{take_more, drop_more, length-map, length-set, length-take-le, set_past, set_at, map_push, get_or-set_same, get_or-set_other, get_or_past}
use Rattle.cert_graph.specs.declared.reach.Reach.{Reach}
use Rattle.cert_graph.specs.declared.reach.Reach.TheVariants.{No}
use Rattle.cert_graph.specs.Adequate.{at_row, changed, rows_by}
use Rattle.cert_graph.specs.declared.changes.Change.{Change}
use Rattle.cert_graph.specs.Changes.{last_by}

-- one change more
pub changed_push : (row : List Reach) (xs : List Change) (x : Change) → changed row (xs ++ x ∷ []) ≡ set (changed row xs) x.position x.reach
changed_push row [] x = refl
changed_push row (y ∷ xs) x = changed_push (set row y.position y.reach) xs x

pub length-changed : (row : List Reach) (xs : List Change) → length (changed row xs) ≡ length row
length-changed row [] = refl
length-changed row (x ∷ xs) = length-changed (set row x.position x.reach) xs ∙ length-set row x.position x.reach

-- one row more
pub rows_push : (row : List Reach) (steps : List (List Change)) (step : List Change) → rows_by row (steps ++ step ∷ []) ≡ rows_by row steps ++ changed (last_by row steps) step ∷ []
rows_push row [] step = refl
rows_push row (s ∷ steps) step = ap (λ rs. changed row s ∷ rs) (rows_push (changed row s) steps step)

pub last_push : (row : List Reach) (steps : List (List Change)) (step : List Change) → last_by row (steps ++ step ∷ []) ≡ changed (last_by row steps) step
last_push row [] step = refl
last_push row (s ∷ steps) step = last_push (changed row s) steps step

pub length-rows_by : (row : List Reach) (steps : List (List Change)) → length (rows_by row steps) ≡ length steps
length-rows_by row [] = refl
length-rows_by row (s ∷ steps) = ap (λ n. suc n) (length-rows_by (changed row s) steps)

pub changed_more : (row now : List Reach) (xs : List Change) (i : ℕ) (d : Change) → i < length xs → now ≡ changed row (take i xs) → set now (get_or xs i d).position (get_or xs i d).reach ≡ changed row (take (i + 1) xs)
changed_more row now xs i d within e =
    ap (λ (rs : List Reach). set rs (get_or xs i d).position (get_or xs i d).reach) e ∙ sym (changed_push row (take i xs) (get_or xs i d)) ∙ sym (ap (λ (ys : List Change). changed row ys) (take_more xs i d within))

pub unchanged_more : (row now : List Reach) (xs : List Change) (i : ℕ) (d : Change) → i < length xs → length now ≤ (get_or xs i d).position → now ≡ changed row (take i xs) → now ≡ changed row (take (i + 1) xs)
unchanged_more row now xs i d within past e = sym (set_past now (get_or xs i d).position (get_or xs i d).reach past) ∙ changed_more row now xs i d within e

-- the changes, as the code keeps them
abbrev pub items_by : List (Vec Change Global) → List (List Change)
items_by steps = map (λ (s : Vec Change Global). s.items) steps

pub items_more : (steps : List (Vec Change Global)) (i : ℕ) (x : Vec Change Global) → i < length steps → x ≡ get_or steps i x → items_by (take (i + 1) steps) ≡ items_by (take i steps) ++ x.items ∷ []
items_more steps i x within is =
    ap items_by (take_more steps i x within ∙ ap (λ (y : Vec Change Global). take i steps ++ y ∷ []) (sym is)) ∙ map_push (λ (s : Vec Change Global). s.items) (take i steps) x

pub last_more : (none : List Reach) (steps : List (Vec Change Global)) (i : ℕ) (x : Vec Change Global) (row now : List Reach) → i < length steps → x ≡ get_or steps i x
    → row ≡ last_by none (items_by (take i steps)) → now ≡ changed row x.items → now ≡ last_by none (items_by (take (i + 1) steps))
last_more none steps i x row now within is e made =
    made ∙ ap (λ (r : List Reach). changed r x.items) e ∙ sym (last_push none (items_by (take i steps)) x.items) ∙ sym (ap (λ (xs : List (List Change)). last_by none xs) (items_more steps i x within is))

pub rows_more : (none : List Reach) (steps : List (Vec Change Global)) (i : ℕ) (x : Vec Change Global) (rows pushed : List (Vec Reach Global)) (new : Vec Reach Global) (row : List Reach) → i < length steps → x ≡ get_or steps i x
    → map (λ (r : Vec Reach Global). r.items) rows ≡ rows_by none (items_by (take i steps)) → row ≡ last_by none (items_by (take i steps)) → pushed ≡ rows ++ new ∷ [] → new.items ≡ changed row x.items
    → map (λ (r : Vec Reach Global). r.items) pushed ≡ rows_by none (items_by (take (i + 1) steps))
rows_more none steps i x rows pushed new row within is h e push made =
    ap (λ (rs : List (Vec Reach Global)). map (λ (r : Vec Reach Global). r.items) rs) push ∙ map_push (λ (r : Vec Reach Global). r.items) rows new
    ∙ ap (λ (rs : List (List Reach)). rs ++ new.items ∷ []) h ∙ ap (λ (r : List Reach). rows_by none (items_by (take i steps)) ++ r ∷ []) (made ∙ ap (λ (r : List Reach). changed r x.items) e)
    ∙ sym (rows_push none (items_by (take i steps)) x.items) ∙ sym (ap (λ (xs : List (List Change)). rows_by none xs) (items_more steps i x within is))

-- the changes of one row more
items_push : (steps pushed : List (Vec Change Global)) (x : Vec Change Global) → pushed ≡ steps ++ x ∷ [] → items_by pushed ≡ items_by steps ++ x.items ∷ []
items_push steps pushed x e = ap items_by e ∙ map_push (λ (s : Vec Change Global). s.items) steps x

pub last_grows : (none : List Reach) (steps pushed : List (Vec Change Global)) (x : Vec Change Global) (last row : List Reach) → pushed ≡ steps ++ x ∷ []
    → last ≡ last_by none (items_by steps) → changed last x.items ≡ row → row ≡ last_by none (items_by pushed)
last_grows none steps pushed x last row push e made =
    sym made ∙ ap (λ (r : List Reach). changed r x.items) e ∙ sym (last_push none (items_by steps) x.items) ∙ sym (ap (λ (xs : List (List Change)). last_by none xs) (items_push steps pushed x push))

pub rows_grow : (none : List Reach) (steps pushed : List (Vec Change Global)) (x : Vec Change Global) (last row : List Reach) → pushed ≡ steps ++ x ∷ []
    → last ≡ last_by none (items_by steps) → changed last x.items ≡ row → rows_by none (items_by pushed) ≡ rows_by none (items_by steps) ++ row ∷ []
rows_grow none steps pushed x last row push e made =
    ap (λ (xs : List (List Change)). rows_by none xs) (items_push steps pushed x push) ∙ rows_push none (items_by steps) x.items
    ∙ ap (λ (r : List Reach). rows_by none (items_by steps) ++ r ∷ []) (ap (λ (r : List Reach). changed r x.items) (sym e) ∙ made)

pub length-rows : (none : List Reach) (steps : List (Vec Change Global)) → length (rows_by none (items_by steps)) ≡ length steps
length-rows none steps = length-rows_by none (items_by steps) ∙ length-map steps (λ (s : Vec Change Global). s.items)

-- the first rows come of the first steps
pub rows_front : (row : List Reach) (steps : List (List Change)) (n : ℕ) → rows_by row (take n steps) ≡ take n (rows_by row steps)
rows_front row [] zero = refl
rows_front row [] (suc n) = refl
rows_front row (s ∷ steps) zero = refl
rows_front row (s ∷ steps) (suc n) = ap (λ (rs : List (List Reach)). changed row s ∷ rs) (rows_front (changed row s) steps n)

-- a row up to a place, and another from there on, differ by one place less
seam : (before row : List Reach) (p : ℕ) → p < length row → take p row ++ get_or row p No ∷ drop (p + 1) before ≡ take (p + 1) row ++ drop (p + 1) before
seam before row p within =
    sym (append_assoc (take p row) (get_or row p No ∷ []) (drop (p + 1) before))
    ∙ ap (λ (rs : List Reach). rs ++ drop (p + 1) before) (sym (take_more row p No within))

pub change_noted : (before row : List Reach) (xs pushed : List Change) (p : ℕ) → length before ≡ length row → p < length row → pushed ≡ xs ++ record { position = p; reach = get_or row p No } ∷ []
    → changed before xs ≡ take p row ++ drop p before → changed before pushed ≡ take (p + 1) row ++ drop (p + 1) before
change_noted before row xs pushed p size within push h =
    let there : p < length before = omega arith in
    let short : p ≤ length row = omega arith in
    ap (λ (ys : List Change). changed before ys) push ∙ changed_push before xs (record { position = p; reach = get_or row p No })
    ∙ ap (λ (rs : List Reach). set rs p (get_or row p No)) (h ∙ ap (λ (rs : List Reach). take p row ++ rs) (drop_more before p No there))
    ∙ set_at (take p row) (get_or before p No) (drop (p + 1) before) (get_or row p No) p (length-take-le p row short)
    ∙ seam before row p within

pub same_passed : (before row : List Reach) (xs : List Change) (p : ℕ) → length before ≡ length row → p < length row → get_or before p No ≡ get_or row p No
    → changed before xs ≡ take p row ++ drop p before → changed before xs ≡ take (p + 1) row ++ drop (p + 1) before
same_passed before row xs p size within same h =
    let there : p < length before = omega arith in
    h ∙ ap (λ (rs : List Reach). take p row ++ rs) (drop_more before p No there ∙ ap (λ (x : Reach). x ∷ drop (p + 1) before) same)
    ∙ seam before row p within

-- one row of nothing, and one step
pub one_step : (n : ℕ) (row none : List Reach) (steps : List (Vec Change Global)) (step : Vec Change Global) → none ≡ replicate n No → steps ≡ step ∷ [] → changed none step.items ≡ row → rows_by (replicate n No) (items_by steps) ≡ row ∷ []
one_step n row none steps step e one made =
    ap (λ (xs : List (Vec Change Global)). rows_by (replicate n No) (items_by xs)) one
    ∙ ap (λ (r : List Reach). r ∷ []) (ap (λ (r : List Reach). changed r step.items) (sym e) ∙ made)

-- what a row holds at a place, change by change
pub at_more : (row : List Reach) (xs : List Change) (i p : ℕ) (d : Change) (r : Reach) → i < length xs → p < length row → r ≡ at_row (changed row (take i xs)) p
    → ((get_or xs i d).position ≡ p → (get_or xs i d).reach ≡ at_row (changed row (take (i + 1) xs)) p) × (((get_or xs i d).position ≡ p → ⊥) → r ≡ at_row (changed row (take (i + 1) xs)) p)
at_more row xs i p d r within inside is =
    let x = get_or xs i d in
    let now = changed row (take i xs) in
    let size = length-changed row (take i xs) in
    let there : p < length now = omega arith in
    let e : changed row (take (i + 1) xs) ≡ set now x.position x.reach = ap (λ (ys : List Change). changed row ys) (take_more xs i d within) ∙ changed_push row (take i xs) x in (
      λ here. sym (ap (λ (rs : List Reach). at_row rs p) (e ∙ ap (λ (n : ℕ). set now n x.reach) here) ∙ get_or-set_same now p x.reach No there),
      λ other. is ∙ sym (ap (λ (rs : List Reach). at_row rs p) e ∙ get_or-set_other now x.position p x.reach No (λ q. other (sym q))),
    )

pub at_end : (row : List Reach) (xs : List Change) (p : ℕ) → length row ≤ p → at_row (changed row xs) p ≡ No
at_end row xs p past = let size = length-changed row xs in get_or_past (changed row xs) p No (omega arith)
