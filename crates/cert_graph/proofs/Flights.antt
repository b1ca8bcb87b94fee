-- Flights over one row more, of one group and of all.
use Rattle.std.proofs.Common.{◌≡◌, ◌≢◌, ℕ, ◌+◌, ◌-◌, ◌<◌, ◌≤◌, List, [], ◌∷◌, ◌++◌, length, take, map, get_or, set, Vec, Global, arith, ap, sym, ◌∙◌, subst, refl, inl, inr, length-append}
use Rattle.std.specs.Prelude.{All}
use Rattle.std.proofs.lemmas.Bool.{cases_lt}
use Rattle.std.proofs.lemmas.List.{get_or_default, get_or_push, get_or_append_left, get_or-set_same, get_or-set_other, get_or-map, length-set, map-set, length-take-le}
use Rattle.cert_graph.specs.declared.reach.Reach.{Reach}
use Rattle.cert_graph.specs.declared.changes.Change.{Change}
use Rattle.cert_graph.specs.declared.nodes.Group.{Group}
use Rattle.cert_graph.specs.declared.stairs.Stair.{Stair}
use Rattle.cert_graph.specs.declared.stairs.Flight.{Flight}
use Rattle.cert_graph.specs.Adequate.{row_of, changed, rows_by}
use Rattle.cert_graph.specs.Changes.{last_by}
use Rattle.cert_graph.specs.Graph.{Graph}
use Rattle.cert_graph.specs.Stairs.{AreStairs, AreFlights, AreFlightsSoFar, OfEachGroup}
use Rattle.cert_graph.proofs.Changing.{items_by, items_more, rows_push, length-rows}
use Rattle.cert_graph.proofs.Climbing.{at_push}

-- the rows before a further one
row_before : (rows : List (List Reach)) (row : List Reach) (k : ℕ) → k < length rows → row_of (rows ++ row ∷ []) k ≡ row_of rows k
row_before rows row k below = get_or_append_left rows (row ∷ []) [] k below

row_last : (rows : List (List Reach)) (row : List Reach) (k : ℕ) → length rows ≡ k → row_of (rows ++ row ∷ []) k ≡ row
row_last rows row k last = get_or_push rows row [] k last

-- a further flight for one row more
pub flight_pushed : (g : Graph) (rows : List (List Reach)) (row : List Reach) (members : List ℕ) (flights : List Flight) (f : Flight) → f.row ≡ length rows → AreStairs g row members f.stairs.items
    → AreFlightsSoFar g rows members flights → AreFlightsSoFar g (rows ++ row ∷ []) members (flights ++ f ∷ [])
flight_pushed g rows row members flights f number stairs h =
    let lr = length-append rows (row ∷ []) in
    let lf = length-append flights (f ∷ []) in (
      record {
        ascend = λ i j d before inside. elim (at_push flights f d j inside) [
          | inl old ↦
              let there : i < length flights = omega (arith, old.0) in
              subst (λ (y : Flight). (get_or (flights ++ f ∷ []) i d).row < y.row) (sym old.1)
              (subst (λ (y : Flight). y.row < (get_or flights j d).row) (sym (get_or_append_left flights (f ∷ []) d i there)) (h.0.ascend i j d before old.0))
          | inr new ↦
              let there : i < length flights = omega arith in
              let below : (get_or flights i d).row < f.row = subst (λ (n : ℕ). (get_or flights i d).row < n) (sym number) (h.1 i d there) in
              subst (λ (y : Flight). (get_or (flights ++ f ∷ []) i d).row < y.row) (sym new.1)
              (subst (λ (y : Flight). y.row < f.row) (sym (get_or_append_left flights (f ∷ []) d i there)) below)
        ];
        covers = λ k lt. elim (cases_lt k (length rows)) [
          | inl below ↦
              let x = h.0.covers k below in
              let there = x.1.0 in (
                x.0,
                (
                  omega arith,
                  λ d.
                      let p = x.1.1 d in
                      subst (λ (y : Flight). (y.row ≤ k) × AreStairs g (row_of (rows ++ row ∷ []) k) members y.stairs.items) (sym (get_or_append_left flights (f ∷ []) d x.0 there))
                      (p.0, subst (λ (r : List Reach). AreStairs g r members (get_or flights x.0 d).stairs.items) (sym (row_before rows row k below)) p.1),
                ),
                λ j d later inside. elim (at_push flights f d j inside) [
                  | inl old ↦ subst (λ (y : Flight). k < y.row) (sym old.1) (x.2 j d later old.0)
                  | inr new ↦ let past : k < f.row = omega arith in subst (λ (y : Flight). k < y.row) (sym new.1) past
                ],
              )
          | inr above ↦
              let last : length rows ≡ k = omega arith in
              let starts : f.row ≤ k = omega arith in (
                length flights,
                (
                  omega arith,
                  λ d. subst (λ (y : Flight). (y.row ≤ k) × AreStairs g (row_of (rows ++ row ∷ []) k) members y.stairs.items) (sym (get_or_push flights f d (length flights) refl))
                      (starts, subst (λ (r : List Reach). AreStairs g r members f.stairs.items) (sym (row_last rows row k last)) stairs),
                ),
                λ j d later inside. absurd (omega arith),
              )
        ];
      },
      λ k d lt. elim (at_push flights f d k lt) [
        | inl old ↦
            let before = h.1 k d old.0 in
            let within : (get_or flights k d).row < length (rows ++ row ∷ []) = omega arith in
            subst (λ (y : Flight). y.row < length (rows ++ row ∷ [])) (sym old.1) within
        | inr new ↦
            let within : f.row < length (rows ++ row ∷ []) = omega arith in
            subst (λ (y : Flight). y.row < length (rows ++ row ∷ [])) (sym new.1) within
      ],
    )

-- the last flight has the stairs of one row more
pub flight_kept : (g : Graph) (rows : List (List Reach)) (row : List Reach) (members : List ℕ) (flights : List Flight) → 0 < length flights → ((d : Flight) → AreStairs g row members (get_or flights (length flights - 1) d).stairs.items)
    → AreFlightsSoFar g rows members flights → AreFlightsSoFar g (rows ++ row ∷ []) members flights
flight_kept g rows row members flights some stairs h =
    let lr = length-append rows (row ∷ []) in (
      record {
        ascend = h.0.ascend;
        covers = λ k lt. elim (cases_lt k (length rows)) [
          | inl below ↦
              let x = h.0.covers k below in (
                x.0,
                (
                  x.1.0,
                  λ d.
                      let p = x.1.1 d in
                      (p.0, subst (λ (r : List Reach). AreStairs g r members (get_or flights x.0 d).stairs.items) (sym (row_before rows row k below)) p.1),
                ),
                x.2,
              )
          | inr above ↦
              let last : length rows ≡ k = omega arith in
              let there : length flights - 1 < length flights = omega arith in (
                length flights - 1,
                (
                  there,
                  λ d.
                      let before = h.1 (length flights - 1) d there in
                      let starts : (get_or flights (length flights - 1) d).row ≤ k = omega arith in
                      (starts, subst (λ (r : List Reach). AreStairs g r members (get_or flights (length flights - 1) d).stairs.items) (sym (row_last rows row k last)) (stairs d)),
                ),
                λ j d later inside. absurd (omega arith),
              )
        ];
      },
      λ k d lt. let before = h.1 k d lt in omega arith,
    )

-- flights as the code keeps them
abbrev pub flights_in : List (Vec Flight Global) → List (List Flight)
flights_in groups = map (λ (f : Vec Flight Global). f.items) groups

-- Flights of which the first groups' go on by one row.
abbrev pub AreOnTo : Graph → List (List Reach) → List Reach → ℕ → List Group → List (List Flight) → Type 0
AreOnTo g rows row i groups flights = (length flights ≡ length groups)
    × ((k : ℕ) (group : Group) (own : List Flight) → k < length groups → (k < i → AreFlightsSoFar g (rows ++ row ∷ []) (get_or groups k group).members.items (get_or flights k own)) × (i ≤ k → AreFlightsSoFar g rows (get_or groups k group).members.items (get_or flights k own)))

pub none_on : (g : Graph) (rows : List (List Reach)) (row : List Reach) (groups : List Group) (flights : List (List Flight)) → OfEachGroup (AreFlightsSoFar g rows) groups flights → AreOnTo g rows row 0 groups flights
none_on g rows row groups flights h = (h.0, λ k group own lt. (λ early. absurd (omega arith), λ late. h.1 k group own lt))

pub all_on : (g : Graph) (rows : List (List Reach)) (row : List Reach) (i : ℕ) (groups : List Group) (flights : List (List Flight)) → length groups ≤ i → AreOnTo g rows row i groups flights → OfEachGroup (AreFlightsSoFar g (rows ++ row ∷ [])) groups flights
all_on g rows row i groups flights past h = (h.0, λ k group own lt. (h.1 k group own lt).0 (omega arith))

-- the next group's flights
pub one_on : (g : Graph) (rows : List (List Reach)) (row : List Reach) (i : ℕ) (groups : List Group) (x : Group) (flights : List (List Flight)) (old new : List Flight) → i < length groups → x ≡ get_or groups i x → old ≡ get_or flights i old
    → (AreFlightsSoFar g rows x.members.items old → AreFlightsSoFar g (rows ++ row ∷ []) x.members.items new)
    → AreOnTo g rows row i groups flights → AreOnTo g rows row (i + 1) groups (set flights i new)
one_on g rows row i groups x flights old new within is was step h =
    let size = length-set flights i new in
    let count = h.0 in
    let inside : i < length flights = omega arith in (
      size ∙ count,
      λ k group own lt. elim (cases_lt k i) [
        | inl below ↦
            let other : k ≢ i = λ e. absurd (omega arith) in (
              λ early. subst (AreFlightsSoFar g (rows ++ row ∷ []) (get_or groups k group).members.items) (sym (get_or-set_other flights i k new own other)) ((h.1 k group own lt).0 below),
              λ late. absurd (omega arith),
            )
        | inr above ↦ elim (cases_lt i k) [
          | inl after ↦
              let other : k ≢ i = λ e. absurd (omega arith) in (
                λ early. absurd (omega arith),
                λ late.
                    let still : i ≤ k = omega arith in
                    subst (AreFlightsSoFar g rows (get_or groups k group).members.items) (sym (get_or-set_other flights i k new own other)) ((h.1 k group own lt).1 still),
              )
          | inr same ↦
              let here : i ≡ k = omega arith in
              let start : i ≤ i = omega arith in
              let before : AreFlightsSoFar g rows x.members.items old =
              subst (λ (y : Group). AreFlightsSoFar g rows y.members.items old) (sym is) (subst (AreFlightsSoFar g rows (get_or groups i x).members.items) (sym was) ((h.1 i x old within).1 start)) in
              let done = step before in (
                λ early. subst (λ (j : ℕ). AreFlightsSoFar g (rows ++ row ∷ []) (get_or groups j group).members.items (get_or (set flights i new) j own)) here
                    (subst (AreFlightsSoFar g (rows ++ row ∷ []) (get_or groups i group).members.items) (sym (get_or-set_same flights i new own inside))
                    (subst (λ (y : Group). AreFlightsSoFar g (rows ++ row ∷ []) y.members.items new) (is ∙ get_or_default groups i x group within) done)),
                λ late. absurd (omega arith),
              )
        ]
      ],
    )

-- flights as the code keeps them, one group more
pub vector_on : (g : Graph) (rows : List (List Reach)) (row : List Reach) (i : ℕ) (groups : List Group) (x : Group) (vectors : List (Vec Flight Global)) (old new : Vec Flight Global) → i < length groups → x ≡ get_or groups i x
    → i < length vectors → old ≡ get_or vectors i old → (AreFlightsSoFar g rows x.members.items old.items → AreFlightsSoFar g (rows ++ row ∷ []) x.members.items new.items)
    → AreOnTo g rows row i groups (flights_in vectors) → AreOnTo g rows row (i + 1) groups (flights_in (set vectors i new))
vector_on g rows row i groups x vectors old new within is inside was step h =
    subst (AreOnTo g rows row (i + 1) groups) (sym (map-set (λ (f : Vec Flight Global). f.items) vectors i new))
    (one_on g rows row i groups x (flights_in vectors) old.items new.items within is
    (ap (λ (f : Vec Flight Global). f.items) was ∙ sym (get_or-map (λ (f : Vec Flight Global). f.items) vectors i old old.items inside)) step h)

-- no row
pub no_rows : (g : Graph) (groups : List Group) (flights : List (List Flight)) → length flights ≡ length groups → All (λ own. own ≡ []) flights → OfEachGroup (AreFlightsSoFar g []) groups flights
no_rows g groups flights count empty = (
  count,
  λ k group own lt.
      let inside : k < length flights = omega arith in
      subst (AreFlightsSoFar g [] (get_or groups k group).members.items) (sym (empty k own inside)) (
        record {
          ascend = λ i j d before early. absurd (omega arith);
          covers = λ j early. absurd (omega arith);
        },
        λ j d early. absurd (omega arith),
      ),
)

-- one row more, by its changes
pub rows_next : (none : List Reach) (steps : List (Vec Change Global)) (i : ℕ) (x : Vec Change Global) (row now : List Reach) → i < length steps → x ≡ get_or steps i x → row ≡ last_by none (items_by (take i steps)) → now ≡ changed row x.items
    → rows_by none (items_by (take i steps)) ++ now ∷ [] ≡ rows_by none (items_by (take (i + 1) steps))
rows_next none steps i x row now within is e made =
    ap (λ (r : List Reach). rows_by none (items_by (take i steps)) ++ r ∷ []) (made ∙ ap (λ (r : List Reach). changed r x.items) e)
    ∙ sym (rows_push none (items_by (take i steps)) x.items) ∙ sym (ap (λ (xs : List (List Change)). rows_by none xs) (items_more steps i x within is))

pub rows_counted : (none : List Reach) (steps : List (Vec Change Global)) (i : ℕ) → i ≤ length steps → length (rows_by none (items_by (take i steps))) ≡ i
rows_counted none steps i within = length-rows none (take i steps) ∙ length-take-le i steps within

-- the flights over all rows
pub all_flights : (g : Graph) (rows : List (List Reach)) (groups : List Group) (flights : List (List Flight)) → OfEachGroup (AreFlightsSoFar g rows) groups flights → OfEachGroup (AreFlights g rows) groups flights
all_flights g rows groups flights h = (h.0, λ k group own lt. (h.1 k group own lt).0)

-- stairs are one if their positions and reaches are
abbrev stair_at : ℕ → Reach → Stair
stair_at position reach = record { position = position; reach = reach }

pub same_stair : (s t : Stair) → s.position ≡ t.position → s.reach ≡ t.reach → s ≡ t
same_stair s t p r = ap (λ (n : ℕ). stair_at n s.reach) p ∙ ap (λ (x : Reach). stair_at t.position x) r
