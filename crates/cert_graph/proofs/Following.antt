-- A row that follows another where something changed, and so everywhere.
use Rattle.std.proofs.Common.{◌≡◌, ℕ, suc, ◌+◌, ◌<◌, ◌≤◌, List, [], ◌∷◌, ◌++◌, length, map, take, get_or, set, Vec, Global, arith, ap, sym, ◌∙◌, subst, inl, inr}
use Rattle.std.specs.Prelude.{◌↔◌, All, Contains}
use Rattle.std.proofs.lemmas.Bool.{cases_lt}
use Rattle.std.proofs.lemmas.List.{get_or-set_same, get_or-set_other, get_or_past, get_or-map, get_or_default, length-set, take_more}
use Rattle.std.proofs.lemmas.List.Elements.{Contains-get_or, Contains-append_cases, Contains-push_cases}
use Rattle.cert_graph.specs.declared.reach.Reach.{Reach}
use Rattle.cert_graph.specs.declared.reach.Reach.TheVariants.{No}
use Rattle.cert_graph.specs.declared.changes.Change.{Change}
use Rattle.cert_graph.specs.declared.nodes.Group.{Group}
use Rattle.cert_graph.specs.declared.nodes.Nodes.{Nodes}
use Rattle.cert_graph.specs.Reach.{IsAtMost, lesser}
use Rattle.cert_graph.specs.Adequate.{at_row, row_of, passed_by, changed}
use Rattle.cert_graph.specs.Changes.{touched, last_by}
use Rattle.cert_graph.specs.Groups.{HoldsLimit, HoldsLimits, HoldsEachLimit, HoldsPassed, HoldsAllPassed, FollowsRow, FollowsAt}
use Rattle.cert_graph.specs.Issuing.{AreMemberships}
use Rattle.cert_graph.specs.Nodes.{graph_of}
use Rattle.cert_graph.proofs.Changing.{items_by, length-rows}
use Rattle.cert_graph.proofs.RowByRow.{row_of_no, rows_in, limits_refused, step_refused}
use Rattle.cert_graph.specs.Tables.{IsTable}
use Rattle.cert_graph.proofs.ReachFacts.{more_takes, at_most_from_takes, at_most_self}
use Rattle.cert_graph.proofs.Touching.{nothing, contains_or, untouched, listed, touched_more, touched_at, within_at}

at_most_trans : (r s t : Reach) → IsAtMost r s → IsAtMost s t → IsAtMost r t
at_most_trans r s t a b = at_most_from_takes r t (λ c x. more_takes s t c b (more_takes r s c a x))

-- a row that no entry falls from
abbrev pub StandsOver : List Reach → List Reach → Type 0
StandsOver row before = (v : ℕ) → IsAtMost (at_row before v) (at_row row v)

-- a change to what is no less, in a row that is above another
over_set : (first row : List Reach) (p : ℕ) (reach : Reach) → StandsOver row first → IsAtMost (at_row first p) reach → StandsOver (set row p reach) first
over_set first row p reach over rise v = elim (cases_lt v p) [
  | inl below ↦ subst (IsAtMost (at_row first v)) (sym (get_or-set_other row p v reach No (λ e. absurd (omega (arith, e, below))))) (over v)
  | inr least ↦ elim (cases_lt p v) [
    | inl above ↦ subst (IsAtMost (at_row first v)) (sym (get_or-set_other row p v reach No (λ e. absurd (omega (arith, e, above))))) (over v)
    | inr most ↦
        let here : p ≡ v = omega (arith, least, most) in
        subst (λ (u : ℕ). IsAtMost (at_row first u) (at_row (set row p reach) u)) here (elim (cases_lt p (length row)) [
          | inl inside ↦ subst (IsAtMost (at_row first p)) (sym (get_or-set_same row p reach No inside)) rise
          | inr past ↦
              let size = length-set row p reach in
              let out : length (set row p reach) ≤ p = omega (arith, size, past) in
              let none = over p in
              subst (IsAtMost (at_row first p)) (get_or_past row p No past ∙ sym (get_or_past (set row p reach) p No out)) none
        ])
  ]
]

over_all : (first : List Reach) (xs : List Change) (row : List Reach) → StandsOver row first → ((k : ℕ) (d : Change) → k < length xs → IsAtMost (at_row first (get_or xs k d).position) (get_or xs k d).reach) → StandsOver (changed row xs) first
over_all first [] row over h = over
over_all first (x ∷ xs) row over h =
    over_all first xs (set row x.position x.reach) (over_set first row x.position x.reach over (h 0 x (omega arith))) (λ k d lt. h (suc k) d (omega (arith, lt)))

pub rises_over : (row : List Reach) (xs : List Change) → All (λ x. IsAtMost (at_row row x.position) x.reach) xs → StandsOver (changed row xs) row
rises_over row xs h = over_all row xs row (λ v. at_most_self (at_row row v)) (λ k d lt. h k d lt)

-- limits that are held stay so
pub limits_kept : (nodes : Nodes) (before row : List Reach) → StandsOver row before → HoldsEachLimit nodes before → HoldsEachLimit nodes row
unfolding HoldsEachLimit HoldsLimits HoldsLimit
limits_kept nodes before row over h = λ k d lt some j e inside fit. at_most_trans _ _ _ (h k d lt some j e inside fit) (over _)

-- if the groups of what changed before are followed, all are
pub followed : (nodes : Nodes) (places : List (List ℕ)) (last : List Change) (older before row : List Reach) → AreMemberships nodes places → before ≡ changed older last → StandsOver row before → FollowsRow nodes older before
    → FollowsAt nodes before row (touched places last) → FollowsRow nodes before row
unfolding FollowsRow HoldsAllPassed HoldsPassed
followed nodes places last older before row filled made over h at = λ k d lt. elim (contains_or (touched places last) k) [
  | inl c ↦ at k d c lt
  | inr not ↦ λ w member fit j e inside fv.
      let g = get_or nodes.groups.items k d in
      let v = get_or g.issued.items j e in
      let same : at_row before w ≡ at_row older w = ap (λ (r : List Reach). at_row r w) made ∙ untouched places last older w k (listed nodes places k d w filled lt member) not in
      subst (λ (r : Reach). IsAtMost (lesser ((graph_of nodes).limit v) (passed_by (graph_of nodes) v r)) (at_row row v)) (sym same)
      (at_most_trans (lesser ((graph_of nodes).limit v) (passed_by (graph_of nodes) v (at_row older w))) (at_row before v) (at_row row v) (h k d lt w member fit j e inside fv) (over v))
]

pub goes_on_iff : (nodes : Nodes) (places : List (List ℕ)) (last step : List Change) (older before row : List Reach) → AreMemberships nodes places → before ≡ changed older last → row ≡ changed before step
    → All (λ x. IsAtMost (at_row before x.position) x.reach) step → HoldsEachLimit nodes before → FollowsRow nodes older before → {P : Type 0} → (P ↔ FollowsAt nodes before row (touched places last)) → P ↔ (HoldsEachLimit nodes row × FollowsRow nodes before row)
unfolding FollowsRow
goes_on_iff nodes places last step older before row filled made now rise limits follows k =
    let over : StandsOver row before = subst (λ (r : List Reach). StandsOver r before) (sym now) (rises_over before step rise) in (
      λ p. (limits_kept nodes before row over limits, followed nodes places last older before row filled made over follows (k.0 p)),
      λ x. k.1 (λ i group c lt. x.1 i group lt),
    )

-- a step by its place
pub step_items : (steps : List (Vec Change Global)) (i : ℕ) (x : Vec Change Global) → i < length steps → x ≡ get_or steps i x → x.items ≡ get_or (items_by steps) i []
step_items steps i x within is = ap (λ (s : Vec Change Global). s.items) is ∙ sym (get_or-map (λ (s : Vec Change Global). s.items) steps i x [] within)

-- a test of the rows as the code keeps them is one of what they hold
pub test_of : (nodes : Nodes) (steps : List (Vec Change Global)) (i : ℕ) (x : Vec Change Global) (before row now b r : List Reach) → i < length steps → x ≡ get_or steps i x → b ≡ before → r ≡ now → before ≡ row → now ≡ changed row x.items
    → (0 < i → HoldsEachLimit nodes before) → ((k : ℕ) → k + 1 ≡ i → (older : List Reach) × (before ≡ changed older (get_or (items_by steps) k [])) × FollowsRow nodes older before)
    → {P : Type 0} → (r ≡ changed b (get_or (items_by steps) i []) → (0 < i → HoldsEachLimit nodes b) → ((k : ℕ) → k + 1 ≡ i → (older : List Reach) × (b ≡ changed older (get_or (items_by steps) k [])) × FollowsRow nodes older b) → P ↔ (HoldsEachLimit nodes r × FollowsRow nodes b r))
    → P ↔ (HoldsEachLimit nodes now × FollowsRow nodes before now)
test_of nodes steps i x before row now b r within is eb er same made limits follows {P} h =
    subst (λ (s : List Reach). P ↔ (HoldsEachLimit nodes s × FollowsRow nodes before s)) er
    (subst (λ (s : List Reach). P ↔ (HoldsEachLimit nodes r × FollowsRow nodes s r)) eb
    (h (er ∙ made ∙ ap (λ (s : List Reach). changed s x.items) (sym (eb ∙ same)) ∙ ap (λ (xs : List Change). changed b xs) (step_items steps i x within is))
    (λ some. subst (HoldsEachLimit nodes) (sym eb) (limits some))
    (λ k e. subst (λ (s : List Reach). (older : List Reach) × (s ≡ changed older (get_or (items_by steps) k [])) × FollowsRow nodes older s) (sym eb) (follows k e))))

-- a row that doesn't follow the one before it, or doesn't hold its limits
pub goes_refused : (nodes : Nodes) (steps : List (Vec Change Global)) (i : ℕ) (before row : List Reach) → i < length steps → before ≡ last_by (row_of_no nodes) (items_by (take i steps)) → row ≡ row_of (rows_in nodes steps) i
    → ((HoldsEachLimit nodes row × FollowsRow nodes before row) → ⊥) → IsTable (graph_of nodes) (rows_in nodes steps) → ⊥
goes_refused nodes steps i before row within e is refused t =
    let size = length-rows (row_of_no nodes) steps in
    let inside : i < length (rows_in nodes steps) = omega (arith, size, within) in
    limits_refused nodes (rows_in nodes steps) i row inside is (λ limits. step_refused nodes steps i before row within e is (λ follows. refused (limits, follows)) t) t

-- one group more
pub follows_none : (nodes : Nodes) (before row : List Reach) → FollowsAt nodes before row []
follows_none nodes before row k group c lt = absurd (nothing k c)

pub follows_more : (nodes : Nodes) (before row : List Reach) (places : List ℕ) (i : ℕ) (x : Group) → i < length places → get_or places i 0 < length nodes.groups.items → x ≡ get_or nodes.groups.items (get_or places i 0) x
    → HoldsAllPassed nodes before row x → FollowsAt nodes before row (take i places) → FollowsAt nodes before row (take (i + 1) places)
follows_more nodes before row places i x within inside is passed h k group c lt = elim (Contains-push_cases (take i places) (get_or places i 0) k (subst (λ (ks : List ℕ). Contains ks k) (take_more places i 0 within) c)) [
  | inl old ↦ h k group old lt
  | inr e ↦ subst (λ (n : ℕ). HoldsAllPassed nodes before row (get_or nodes.groups.items n group)) e
      (subst (HoldsAllPassed nodes before row) (is ∙ get_or_default nodes.groups.items (get_or places i 0) x group inside) passed)
]

-- a group that isn't followed
pub follows_refused : (nodes : Nodes) (before row : List Reach) (places : List ℕ) (i : ℕ) (x : Group) → i < length places → get_or places i 0 < length nodes.groups.items → x ≡ get_or nodes.groups.items (get_or places i 0) x
    → (HoldsAllPassed nodes before row x → ⊥) → FollowsAt nodes before row places → ⊥
follows_refused nodes before row places i x within inside is not h =
    not (subst (HoldsAllPassed nodes before row) (sym is) (h (get_or places i 0) x (Contains-get_or places i 0 within) inside))

-- the groups of one change more
pub follows_both : (nodes : Nodes) (before row : List Reach) (xs ys : List ℕ) → FollowsAt nodes before row xs → FollowsAt nodes before row ys → FollowsAt nodes before row (xs ++ ys)
follows_both nodes before row xs ys a b k group c lt = elim (Contains-append_cases xs ys k c) [ inl x ↦ a k group x lt | inr y ↦ b k group y lt ]

pub follows_change : (nodes : Nodes) (before row : List Reach) (lists : List (List ℕ)) (changes : List Change) (i : ℕ) (d : Change) → i < length changes → FollowsAt nodes before row (get_or lists (get_or changes i d).position [])
    → FollowsAt nodes before row (touched lists (take i changes)) → FollowsAt nodes before row (touched lists (take (i + 1) changes))
follows_change nodes before row lists changes i d within here h =
    subst (FollowsAt nodes before row) (sym (touched_more lists changes i d within)) (follows_both nodes before row (touched lists (take i changes)) (get_or lists (get_or changes i d).position []) h here)

-- a change whose groups aren't followed
pub change_refused : (nodes : Nodes) (before row : List Reach) (lists : List (List ℕ)) (changes : List Change) (i : ℕ) (d : Change) → i < length changes → (FollowsAt nodes before row (get_or lists (get_or changes i d).position []) → ⊥)
    → FollowsAt nodes before row (touched lists changes) → ⊥
change_refused nodes before row lists changes i d within not h = not (λ k group c lt. h k group (touched_at lists changes i d k within c) lt)

-- what is listed at a position names groups
pub within_list : (nodes : Nodes) (places : List (Vec ℕ Global)) (p : ℕ) (own : List ℕ) → own ≡ get_or (map (λ (l : Vec ℕ Global). l.items) places) p [] → All (λ l. All (λ k. k < length nodes.groups.items) l.items) places → All (λ k. k < length nodes.groups.items) own
within_list nodes places p own e h = subst (λ (ks : List ℕ). All (λ k. k < length nodes.groups.items) ks) (sym e) (within_at nodes places p h)
