-- A table of rows that come of changes, row by row.
use Rattle.std.proofs.Common.{◌≡◌, ℕ, zero, suc, ◌+◌, ◌-◌, ◌<◌, ◌≤◌, ◌==◌, Bool, true, false, not, cond, List, [], ◌∷◌, ◌++◌, length, take, drop, replicate, get_or, Vec, Global, arith, ap, sym, ◌∙◌, subst, refl, inl, inr, length-append}
use Rattle.std.specs.Prelude.{◌↔◌}
use Rattle.std.proofs.lemmas.Bool.{cases_lt, false≢true}
use Rattle.std.proofs.lemmas.List.{get_or-replicate, get_or_past, get_or_append_left, get_or_push, get_or-take, length-replicate, take-map}
use Rattle.std.proofs.lemmas.List.Elements.{All-nil, All-push}
use Rattle.cert_graph.specs.declared.reach.Reach.{Reach}
use Rattle.cert_graph.specs.declared.reach.Reach.TheVariants.{No}
use Rattle.cert_graph.specs.declared.changes.Change.{Change}
use Rattle.cert_graph.specs.declared.nodes.Nodes.{Nodes}
use Rattle.cert_graph.specs.Reach.{lesser}
use Rattle.cert_graph.specs.Graph.{Graph}
use Rattle.cert_graph.specs.Adequate.{at_row, row_of, passed_by, HasAnchored, IsSuccessor, changed, rows_by}
use Rattle.cert_graph.specs.Changes.{last_by}
use Rattle.cert_graph.specs.Groups.{HoldsEachLimit, FollowsRow}
use Rattle.cert_graph.specs.Inventory.{StandsAtLast}
use Rattle.cert_graph.specs.Nodes.{graph_of}
use Rattle.cert_graph.specs.Tables.{IsTable}
use Rattle.cert_graph.proofs.ReachFacts.{at_most_from_takes, none_taken, passed_back, lesser_right}
use Rattle.cert_graph.proofs.GroupFacts.{anchored_iff, successor_iff}
use Rattle.cert_graph.proofs.Changing.{length-changed, length-rows_by, length-rows, items_by, rows_front}
use Rattle.cert_graph.proofs.Flights.{rows_counted, rows_next}
use Rattle.cert_graph.proofs.Sharing.{last_iff, last_alone, no_row_left}

-- a row of so many `No`
abbrev pub row_of_no : Nodes → List Reach
row_of_no nodes = replicate (length nodes.items.items) No

-- the rows of some changes
abbrev pub rows_in : Nodes → List (Vec Change Global) → List (List Reach)
rows_in nodes steps = rows_by (row_of_no nodes) (items_by steps)

nothing_at : (n w : ℕ) → at_row (replicate n No) w ≡ No
nothing_at n w = elim (cases_lt w n) [
  | inl below ↦ get_or-replicate n w No No below
  | inr above ↦
      let size = length-replicate n No in
      get_or_past (replicate n No) w No (omega arith)
]

-- each row follows a row of `No`
pub follows_nothing : (g : Graph) (n : ℕ) (row : List Reach) → IsSuccessor g (replicate n No) row
follows_nothing g n row v w fit_v fit_w edge =
    let passed = passed_by g v (at_row (replicate n No) w) in
    at_most_from_takes (lesser (g.limit v) passed) (at_row row v)
    (λ c t. absurd (none_taken (at_row (replicate n No) w) (c + cond (not (g.self_issued v)) 1 0) (nothing_at n w) (passed_back (g.self_issued v) (at_row (replicate n No) w) c (lesser_right (g.limit v) passed c t))))

-- the last of some rows
pub last_at : (none : List Reach) (steps : List (List Change)) (k : ℕ) → k + 1 ≡ length steps → last_by none steps ≡ row_of (rows_by none steps) k
last_at none [] k e = absurd (omega arith)
last_at none (s ∷ []) zero e = refl
last_at none (s ∷ []) (suc k) e = absurd (omega arith)
last_at none (s ∷ t ∷ steps) zero e = absurd (omega arith)
last_at none (s ∷ t ∷ steps) (suc k) e = last_at (changed none s) (t ∷ steps) k (omega arith)

pub length-last : (none : List Reach) (steps : List (List Change)) → length (last_by none steps) ≡ length none
length-last none [] = refl
length-last none (s ∷ steps) = length-last (changed none s) steps ∙ length-changed none s

pub length-now : (nodes : Nodes) (steps : List (List Change)) (step : List Change) (row now : List Reach) → row ≡ last_by (row_of_no nodes) steps → now ≡ changed row step → length now ≡ length nodes.items.items
length-now nodes steps step row now is made =
    ap (λ (r : List Reach). length r) made ∙ length-changed row step ∙ ap (λ (r : List Reach). length r) is ∙ length-last (row_of_no nodes) steps ∙ length-replicate (length nodes.items.items) No

-- the first rows come of the first steps
prefix : (none : List Reach) (steps : List (Vec Change Global)) (n : ℕ) → rows_by none (items_by (take n steps)) ≡ take n (rows_by none (items_by steps))
prefix none steps n = ap (λ (xs : List (List Change)). rows_by none xs) (sym (take-map (λ (s : Vec Change Global). s.items) n steps)) ∙ rows_front none (items_by steps) n

-- the row of a step, and the one before it, among all
pub row_at : (none : List Reach) (steps : List (Vec Change Global)) (i : ℕ) (x : Vec Change Global) (row now : List Reach) → i < length steps → x ≡ get_or steps i x → row ≡ last_by none (items_by (take i steps)) → now ≡ changed row x.items
    → now ≡ row_of (rows_by none (items_by steps)) i
row_at none steps i x row now within is e made =
    let start : i ≤ length steps = omega arith in
    let here : i < i + 1 = omega arith in
    sym (get_or_push (rows_by none (items_by (take i steps))) now [] i (rows_counted none steps i start))
    ∙ ap (λ (rs : List (List Reach)). row_of rs i) (rows_next none steps i x row now within is e made ∙ prefix none steps (i + 1))
    ∙ get_or-take (i + 1) (rows_by none (items_by steps)) i [] here

before_at : (none : List Reach) (steps : List (Vec Change Global)) (i k : ℕ) (row : List Reach) → i ≤ length steps → k + 1 ≡ i → row ≡ last_by none (items_by (take i steps)) → row ≡ row_of (rows_by none (items_by steps)) k
before_at none steps i k row within e is =
    let count : k + 1 ≡ length (items_by (take i steps)) = e ∙ sym (rows_counted none steps i within) ∙ length-rows_by none (items_by (take i steps)) in
    let here : k < i = omega arith in
    is ∙ last_at none (items_by (take i steps)) k count ∙ ap (λ (rs : List (List Reach)). row_of rs k) (prefix none steps i) ∙ get_or-take i (rows_by none (items_by steps)) k [] here

-- no row
pub no_table : (g : Graph) → IsTable g []
no_table g = record {
  whole = All-nil (λ row. length row ≡ g.items);
  anchored = All-nil (HasAnchored g);
  successors = λ k lt. absurd (omega arith);
}

-- one row more, which follows the last
pub table_push : (g : Graph) (rows : List (List Reach)) (last row : List Reach) → IsTable g rows → length row ≡ g.items → HasAnchored g row → ((k : ℕ) → k + 1 ≡ length rows → last ≡ row_of rows k)
    → IsSuccessor g last row → IsTable g (rows ++ row ∷ [])
table_push g rows last row t whole anchored ends step =
    let size = length-append rows (row ∷ []) in record {
      whole = All-push (λ r. length r ≡ g.items) rows row t.whole whole;
      anchored = All-push (HasAnchored g) rows row t.anchored anchored;
      successors = λ k lt. elim (cases_lt (k + 1) (length rows)) [
        | inl below ↦
            let here : k < length rows = omega arith in
            subst (λ (r : List Reach). IsSuccessor g r (row_of (rows ++ row ∷ []) (k + 1))) (sym (get_or_append_left rows (row ∷ []) [] k here))
            (subst (λ (s : List Reach). IsSuccessor g (row_of rows k) s) (sym (get_or_append_left rows (row ∷ []) [] (k + 1) below)) (t.successors k below))
        | inr above ↦
            let at : k + 1 ≡ length rows = omega arith in
            let here : k < length rows = omega arith in
            subst (λ (r : List Reach). IsSuccessor g r (row_of (rows ++ row ∷ []) (k + 1))) (ends k at ∙ sym (get_or_append_left rows (row ∷ []) [] k here))
            (subst (λ (s : List Reach). IsSuccessor g last s) (sym (get_or_push rows row [] (k + 1) (sym at))) step)
      ];
    }

pub table_more : (nodes : Nodes) (steps : List (Vec Change Global)) (i : ℕ) (x : Vec Change Global) (row now : List Reach) → i < length steps → x ≡ get_or steps i x → row ≡ last_by (row_of_no nodes) (items_by (take i steps))
    → now ≡ changed row x.items → HoldsEachLimit nodes now → FollowsRow nodes row now → IsTable (graph_of nodes) (rows_in nodes (take i steps)) → IsTable (graph_of nodes) (rows_in nodes (take (i + 1) steps))
table_more nodes steps i x row now within is e made limits follows t =
    let none = row_of_no nodes in
    let rows = rows_in nodes (take i steps) in
    subst (IsTable (graph_of nodes)) (rows_next none steps i x row now within is e made)
    (table_push (graph_of nodes) rows row now t (length-now nodes (items_by (take i steps)) x.items row now e made) ((anchored_iff nodes now).0 limits)
    (λ k last. e ∙ last_at none (items_by (take i steps)) k (last ∙ length-rows_by none (items_by (take i steps)))) ((successor_iff nodes row now).0 follows))

-- a row that holds too little at a link to an anchor
pub limits_refused : (nodes : Nodes) (rows : List (List Reach)) (i : ℕ) (row : List Reach) → i < length rows → row ≡ row_of rows i → (HoldsEachLimit nodes row → ⊥) → IsTable (graph_of nodes) rows → ⊥
limits_refused nodes rows i row within is refused t = refused ((anchored_iff nodes row).1 (subst (HasAnchored (graph_of nodes)) (sym is) (t.anchored i [] within)))

-- a row that doesn't follow the one before it
pub step_refused : (nodes : Nodes) (steps : List (Vec Change Global)) (i : ℕ) (before row : List Reach) → i < length steps → before ≡ last_by (row_of_no nodes) (items_by (take i steps)) → row ≡ row_of (rows_in nodes steps) i
    → (FollowsRow nodes before row → ⊥) → IsTable (graph_of nodes) (rows_in nodes steps) → ⊥
step_refused nodes steps zero before row within e is refused t =
    refused ((successor_iff nodes before row).1 (subst (λ (r : List Reach). IsSuccessor (graph_of nodes) r row) (sym e) (follows_nothing (graph_of nodes) (length nodes.items.items) row)))
step_refused nodes steps (suc j) before row within e is refused t =
    let size = length-rows (row_of_no nodes) steps in
    let rows = rows_in nodes steps in
    let next : suc j ≡ j + 1 = omega arith in
    let inside : j + 1 < length rows = omega arith in
    let start : suc j ≤ length steps = omega arith in
    refused ((successor_iff nodes before row).1
    (subst (λ (r : List Reach). IsSuccessor (graph_of nodes) r row) (sym (before_at (row_of_no nodes) steps (suc j) j before start (sym next) e))
    (subst (λ (s : List Reach). IsSuccessor (graph_of nodes) (row_of rows j) s) (sym (is ∙ ap (λ (n : ℕ). row_of rows n) next)) (t.successors j inside))))

-- the last row against itself; without a row this is a row of `No`
pub standing_iff : (nodes : Nodes) (steps : List (Vec Change Global)) (row : List Reach) → row ≡ last_by (row_of_no nodes) (items_by steps) → IsTable (graph_of nodes) (rows_in nodes steps)
    → {P : Type 0} → (P ↔ FollowsRow nodes row row) → P ↔ (IsTable (graph_of nodes) (rows_in nodes steps) × StandsAtLast (graph_of nodes) (rows_in nodes steps))
standing_iff nodes [] row is t h = (
  λ p. (t, λ k e. absurd (omega arith)),
  λ x. h.1 ((successor_iff nodes row row).1 (subst (λ (r : List Reach). IsSuccessor (graph_of nodes) r row) (sym is) (follows_nothing (graph_of nodes) (length nodes.items.items) row))),
)
standing_iff nodes (s ∷ steps) row is t h =
    let none = row_of_no nodes in
    let k = length steps in
    let size = length-rows none (s ∷ steps) in
    let last : k + 1 ≡ length (rows_in nodes (s ∷ steps)) = omega arith in
    let stands = last_iff (graph_of nodes) (rows_in nodes (s ∷ steps)) row k last (is ∙ last_at none (items_by (s ∷ steps)) k (last ∙ length-rows_by none (items_by (s ∷ steps))))
    (λ p. (successor_iff nodes row row).0 (h.0 p), λ q. h.1 ((successor_iff nodes row row).1 q)) in
    (λ p. (t, stands.0 p), λ x. stands.1 x.1)

-- rows of a width
pub width_by : (row : List Reach) (steps : List (List Change)) (k : ℕ) → k < length (rows_by row steps) → length (row_of (rows_by row steps) k) ≡ length row
width_by row [] k lt = absurd (omega arith)
width_by row (s ∷ steps) zero lt = length-changed row s
width_by row (s ∷ steps) (suc k) lt = width_by (changed row s) steps k (omega arith) ∙ length-changed row s

-- whether there are steps
pub some_steps : (steps : List (Vec Change Global)) (b : Bool) → b ≡ (length steps == 0) → b ≡ false → 0 < length steps
some_steps [] b is f = absurd (false≢true (sym f ∙ is))
some_steps (s ∷ steps) b is f = omega arith

pub none_there : (steps : List (Vec Change Global)) (b : Bool) → b ≡ (length steps == 0) → b ≡ true → length steps ≡ 0
none_there [] b is t = refl
none_there (s ∷ steps) b is t = absurd (grind arith)

-- if there are no steps the width doesn't matter
pub no_steps : (m n : ℕ) (steps : List (Vec Change Global)) → length steps ≡ 0 → rows_by (replicate m No) (items_by steps) ≡ rows_by (replicate n No) (items_by steps)
no_steps m n [] e = refl
no_steps m n (s ∷ steps) e = absurd (omega arith)

-- the last of some rows, alone
pub last_of_rows : (none : List Reach) (steps : List (List Change)) (row : List Reach) → drop (length (rows_by none steps) - 1) (rows_by none steps) ≡ row ∷ [] → drop (length (rows_by none steps) - 1) (rows_by none steps) ≡ last_by none steps ∷ []
last_of_rows none [] row e = absurd (no_row_left [] row refl e)
last_of_rows none (s ∷ steps) row e =
    let rows = rows_by none (s ∷ steps) in
    let k = length steps in
    let size = length-rows_by none (s ∷ steps) in
    let last : k + 1 ≡ length rows = omega arith in
    let at : k + 1 ≡ length (s ∷ steps) = omega arith in
    last_alone rows k last ∙ ap (λ (r : List Reach). r ∷ []) (sym (last_at none (s ∷ steps) k at))
