-- What some changes touch, and flights that go on where they touch something.
use Rattle.std.proofs.Common.{◌≡◌, ◌≢◌, ℕ, zero, suc, ◌+◌, ◌-◌, ◌<◌, List, [], ◌∷◌, ◌++◌, length, take, map, get_or, set, Vec, Global, arith, ap, sym, ◌∙◌, subst, refl, inl, inr, append_assoc, length-append}
use Rattle.std.specs.Prelude.{◌⊎◌, All, Contains}
use Rattle.std.proofs.lemmas.Bool.{cases_lt}
use Rattle.std.proofs.lemmas.List.{get_or_default, get_or_push, get_or-set_same, get_or-set_other, get_or-map, length-map, length-set, map-set, take_more, append-nil}
use Rattle.std.proofs.lemmas.List.Elements.{All-contains, Contains-append_left, Contains-append_right, Contains-append_cases, Contains-push, Contains-push_cases}
use Rattle.cert_graph.specs.declared.reach.Reach.{Reach}
use Rattle.cert_graph.specs.declared.reach.Reach.TheVariants.{No}
use Rattle.cert_graph.specs.declared.changes.Change.{Change}
use Rattle.cert_graph.specs.declared.nodes.Group.{Group}
use Rattle.cert_graph.specs.declared.nodes.Nodes.{Nodes}
use Rattle.cert_graph.specs.declared.stairs.Flight.{Flight}
use Rattle.cert_graph.specs.Reach.{Takes}
use Rattle.cert_graph.specs.Adequate.{at_row, row_of, changed}
use Rattle.cert_graph.specs.Changes.{touched}
use Rattle.cert_graph.specs.Graph.{Graph}
use Rattle.cert_graph.specs.Issuing.{AreMemberships}
use Rattle.cert_graph.specs.Nodes.{graph_of}
use Rattle.cert_graph.specs.Stairs.{OpenIn, AreStairs, AreFlightsSoFar, OfEachGroup, MayClimb, AreClimbing}
use Rattle.cert_graph.proofs.Flights.{flight_pushed, flight_kept, flights_in}
use Rattle.cert_graph.proofs.PlacesOfNodes.{element_at}

pub nothing : (v : ℕ) → Contains {X = ℕ} [] v → ⊥
nothing v c = omega (arith, c.1)

only : (x v : ℕ) → Contains (x ∷ []) v → x ≡ v
only x v c = elim (Contains-push_cases [] x v c) [ inl n ↦ absurd (nothing v n) | inr e ↦ e ]

-- a list of numbers has one or hasn't
pub contains_or : (xs : List ℕ) (v : ℕ) → Contains xs v ⊎ (Contains xs v → ⊥)
contains_or [] v = inr (nothing v)
contains_or (x ∷ xs) v = elim (contains_or xs v) [
  | inl c ↦ inl (Contains-append_right (x ∷ []) xs v c)
  | inr not ↦ elim (cases_lt x v) [
    | inl below ↦ inr (λ c. elim (Contains-append_cases (x ∷ []) xs v c) [ inl one ↦ let e : x ≡ v = only x v one in absurd (omega (arith, e, below)) | inr rest ↦ not rest ])
    | inr least ↦ elim (cases_lt v x) [
      | inl above ↦ inr (λ c. elim (Contains-append_cases (x ∷ []) xs v c) [ inl one ↦ let e : x ≡ v = only x v one in absurd (omega (arith, e, above)) | inr rest ↦ not rest ])
      | inr most ↦ let e : x ≡ v = omega (arith, least, most) in inl (Contains-append_left (x ∷ []) xs v (subst (λ (u : ℕ). Contains (x ∷ []) u) e (Contains-push [] x)))
    ]
  ]
]

-- one change more
pub touched_push : (lists : List (List ℕ)) (xs : List Change) (x : Change) → touched lists (xs ++ x ∷ []) ≡ touched lists xs ++ get_or lists x.position []
touched_push lists [] x = append-nil (get_or lists x.position [])
touched_push lists (y ∷ xs) x =
    ap (λ (vs : List ℕ). get_or lists y.position [] ++ vs) (touched_push lists xs x) ∙ sym (append_assoc (get_or lists y.position []) (touched lists xs) (get_or lists x.position []))

pub touched_more : (lists : List (List ℕ)) (xs : List Change) (i : ℕ) (d : Change) → i < length xs → touched lists (take (i + 1) xs) ≡ touched lists (take i xs) ++ get_or lists (get_or xs i d).position []
touched_more lists xs i d within = ap (λ (ys : List Change). touched lists ys) (take_more xs i d within) ∙ touched_push lists (take i xs) (get_or xs i d)

-- a row holds what it held at a position for which nothing is touched of what is listed there
pub untouched : (lists : List (List ℕ)) (xs : List Change) (row : List Reach) (w k : ℕ) → Contains (get_or lists w []) k → (Contains (touched lists xs) k → ⊥) → at_row (changed row xs) w ≡ at_row row w
untouched lists [] row w k c not = refl
untouched lists (x ∷ xs) row w k c not =
    let other : w ≢ x.position = λ e. not (Contains-append_left (get_or lists x.position []) (touched lists xs) k (subst (λ (p : ℕ). Contains (get_or lists p []) k) e c)) in
    untouched lists xs (set row x.position x.reach) w k c (λ t. not (Contains-append_right (get_or lists x.position []) (touched lists xs) k t))
    ∙ get_or-set_other row x.position w x.reach No other

-- rows that agree at the members have equal stairs
open_same : (g : Graph) (r s : List Reach) (members : List ℕ) (count w : ℕ) → at_row r w ≡ at_row s w → OpenIn g r members count w → OpenIn g s members count w
open_same g r s members count w e o = (o.0, (o.1.0, subst (λ (x : Reach). Takes x count) e o.1.1))

pub same_stairs : (g : Graph) (r s : List Reach) (members : List ℕ) (stairs : List _) → ((w : ℕ) → Contains members w → at_row s w ≡ at_row r w) → AreStairs g r members stairs → AreStairs g s members stairs
same_stairs g r s members stairs same h = record {
  ascend = h.ascend;
  opened = λ k count d lt t. let o = h.opened k count d lt t in open_same g r s members count _ (sym (same _ o.0)) o;
  covers = λ w count o. h.covers w count (open_same g s r members count w (same w o.0) o);
  rise = h.rise;
}

-- the last flight has the stairs of the last row
last_flight : (g : Graph) (rows : List (List Reach)) (members : List ℕ) (flights : List Flight) → 0 < length rows → AreFlightsSoFar g rows members flights
    → (0 < length flights) × ((d : Flight) → AreStairs g (row_of rows (length rows - 1)) members (get_or flights (length flights - 1) d).stairs.items)
last_flight g rows members flights some h =
    let k = length rows - 1 in
    let here : k < length rows = omega arith in
    let x = h.0.covers k here in
    let there : x.0 < length flights = x.1.0 in
    let last : length flights - 1 < length flights = omega arith in (
      omega arith,
      λ d. elim (cases_lt x.0 (length flights - 1)) [
        | inl before ↦
            let late = x.2 (length flights - 1) d before last in
            let soon = h.1 (length flights - 1) d last in
            absurd (omega (arith, late, soon))
        | inr after ↦
            let at : x.0 ≡ length flights - 1 = omega arith in
            subst (λ (n : ℕ). AreStairs g (row_of rows k) members (get_or flights n d).stairs.items) at (x.1.1 d).1
      ],
    )

-- a row that agrees at the members with the last one
pub flight_same : (g : Graph) (rows : List (List Reach)) (row : List Reach) (members : List ℕ) (flights : List Flight) → 0 < length rows → ((w : ℕ) → Contains members w → at_row row w ≡ at_row (row_of rows (length rows - 1)) w)
    → AreFlightsSoFar g rows members flights → AreFlightsSoFar g (rows ++ row ∷ []) members flights
flight_same g rows row members flights some same h =
    let l = last_flight g rows members flights some h in
    flight_kept g rows row members flights l.0 (λ d. same_stairs g (row_of rows (length rows - 1)) row members (get_or flights (length flights - 1) d).stairs.items same (l.1 d)) h

-- flights that began one in the further row: none is to come
pub begun : (g : Graph) (rows : List (List Reach)) (row : List Reach) (members : List ℕ) (flights : List Flight) (number : ℕ) → length rows ≡ number → (0 < length flights) × ((d : Flight) → (get_or flights (length flights - 1) d).row ≡ number)
    → MayClimb g rows row members flights → AreFlightsSoFar g (rows ++ row ∷ []) members flights × MayClimb g rows row members flights
begun g rows row members flights number size last h = elim h [
  | inl so_far ↦
      let some = last.0 in
      let there : length flights - 1 < length flights = omega arith in
      let d = (element_at flights (length flights - 1) there).0 in
      let early = so_far.1 (length flights - 1) d there in
      let late = last.1 d in
      absurd (omega (arith, early, late, size))
  | inr onto ↦ (onto.0, inr onto)
]

-- none began there yet
pub not_begun : (g : Graph) (rows : List (List Reach)) (row : List Reach) (members : List ℕ) (flights : List Flight) (number : ℕ) → length rows ≡ number → ((0 < length flights) × ((d : Flight) → (get_or flights (length flights - 1) d).row ≡ number) → ⊥)
    → MayClimb g rows row members flights → AreFlightsSoFar g rows members flights
not_begun g rows row members flights number size not h = elim h [
  | inl so_far ↦ so_far
  | inr onto ↦ absurd (not (onto.1, λ d. onto.2 d ∙ size))
]

pub pushed_onto : (g : Graph) (rows : List (List Reach)) (row : List Reach) (members : List ℕ) (flights : List Flight) (f : Flight) → f.row ≡ length rows → AreStairs g row members f.stairs.items → AreFlightsSoFar g rows members flights
    → AreFlightsSoFar g (rows ++ row ∷ []) members (flights ++ f ∷ []) × MayClimb g rows row members (flights ++ f ∷ [])
pushed_onto g rows row members flights f number stairs h =
    let onto = flight_pushed g rows row members flights f number stairs h in
    let l = length-append flights (f ∷ []) in
    let at : length flights ≡ length (flights ++ f ∷ []) - 1 = omega arith in (
      onto,
      inr (onto, omega arith, λ d. ap (λ (y : Flight). y.row) (get_or_push flights f d (length (flights ++ f ∷ []) - 1) at) ∙ number),
    )

-- one group more
pub one_climbed : (g : Graph) (rows : List (List Reach)) (row : List Reach) (done : List ℕ) (i : ℕ) (groups : List Group) (x : Group) (flights : List (List Flight)) (old new : List Flight) → i < length groups → x ≡ get_or groups i x → old ≡ get_or flights i old
    → (MayClimb g rows row x.members.items old → AreFlightsSoFar g (rows ++ row ∷ []) x.members.items new × MayClimb g rows row x.members.items new)
    → AreClimbing g rows row done groups flights → AreClimbing g rows row (done ++ i ∷ []) groups (set flights i new)
one_climbed g rows row done i groups x flights old new within is was step h =
    let size = length-set flights i new in
    let count = h.0 in
    let inside : i < length flights = omega arith in
    let before : MayClimb g rows row x.members.items old =
    subst (λ (y : Group). MayClimb g rows row y.members.items old) (sym is) (subst (MayClimb g rows row (get_or groups i x).members.items) (sym was) (h.1 i x old within).0) in
    let now = step before in
    let Goal : ℕ → Group → List Flight → Type 0 = λ k group own. MayClimb g rows row (get_or groups k group).members.items own × (Contains (done ++ i ∷ []) k → AreFlightsSoFar g (rows ++ row ∷ []) (get_or groups k group).members.items own) in (
      size ∙ count,
      λ k group own lt.
          let kept : k ≢ i → Goal k group (get_or (set flights i new) k own) = λ other.
          let there = h.1 k group own lt in
          subst (Goal k group) (sym (get_or-set_other flights i k new own other))
          (there.0, λ c. elim (Contains-push_cases done i k c) [ inl d ↦ there.1 d | inr e ↦ absurd (other (sym e)) ]) in
          elim (cases_lt k i) [
            | inl below ↦ kept (λ e. absurd (omega (arith, e, below)))
            | inr least ↦ elim (cases_lt i k) [
              | inl above ↦ kept (λ e. absurd (omega (arith, e, above)))
              | inr most ↦
                  let here : i ≡ k = omega (arith, least, most) in
                  let same : x ≡ get_or groups i group = is ∙ get_or_default groups i x group within in
                  subst (λ (j : ℕ). Goal j group (get_or (set flights i new) j own)) here
                  (subst (Goal i group) (sym (get_or-set_same flights i new own inside))
                  (subst (λ (y : Group). MayClimb g rows row y.members.items new) same now.1, λ c. subst (λ (y : Group). AreFlightsSoFar g (rows ++ row ∷ []) y.members.items new) same now.0))
            ]
          ],
    )

-- flights as the code keeps them, one group more
pub vector_climbed : (g : Graph) (rows : List (List Reach)) (row : List Reach) (done : List ℕ) (i : ℕ) (groups : List Group) (x : Group) (vectors : List (Vec Flight Global)) (old new : Vec Flight Global) → i < length groups → x ≡ get_or groups i x
    → i < length vectors → old ≡ get_or vectors i old → (MayClimb g rows row x.members.items old.items → AreFlightsSoFar g (rows ++ row ∷ []) x.members.items new.items × MayClimb g rows row x.members.items new.items)
    → AreClimbing g rows row done groups (flights_in vectors) → AreClimbing g rows row (done ++ i ∷ []) groups (flights_in (set vectors i new))
vector_climbed g rows row done i groups x vectors old new within is inside was step h =
    subst (AreClimbing g rows row (done ++ i ∷ []) groups) (sym (map-set (λ (f : Vec Flight Global). f.items) vectors i new))
    (one_climbed g rows row done i groups x (flights_in vectors) old.items new.items within is
    (ap (λ (f : Vec Flight Global). f.items) was ∙ sym (get_or-map (λ (f : Vec Flight Global). f.items) vectors i old old.items inside)) step h)

-- before the first, none
pub none_climbed : (g : Graph) (rows : List (List Reach)) (row : List Reach) (groups : List Group) (flights : List (List Flight)) → OfEachGroup (AreFlightsSoFar g rows) groups flights → AreClimbing g rows row [] groups flights
none_climbed g rows row groups flights h = (h.0, λ k group own lt. (inl (h.1 k group own lt), λ c. absurd (nothing k c)))

-- a group is listed for each of its members
pub listed : (nodes : Nodes) (places : List (List ℕ)) (k : ℕ) (group : Group) (w : ℕ) → AreMemberships nodes places → k < length nodes.groups.items → Contains (get_or nodes.groups.items k group).members.items w → Contains (get_or places w []) k
listed nodes places k group w filled lt c =
    let within : w < length nodes.items.items = All-contains (λ (u : ℕ). u < length nodes.items.items) (get_or nodes.groups.items k group).members.items w (nodes.members_within k group lt) c in
    ((filled.each w within).exact k lt).1 (lt, λ d. subst (λ (g : Group). Contains g.members.items w) (get_or_default nodes.groups.items k group d lt) c)

-- if all that changed was gone over, all flights go on
pub all_climbed : (nodes : Nodes) (rows : List (List Reach)) (places : List (List ℕ)) (step : List Change) (row now : List Reach) (flights : List (List Flight)) → 0 < length rows → AreMemberships nodes places
    → row ≡ row_of rows (length rows - 1) → now ≡ changed row step → AreClimbing (graph_of nodes) rows now (touched places step) nodes.groups.items flights
    → OfEachGroup (AreFlightsSoFar (graph_of nodes) (rows ++ now ∷ [])) nodes.groups.items flights
all_climbed nodes rows places step row now flights some filled last made h = (
  h.0,
  λ k group own lt.
      let g = graph_of nodes in
      let members = (get_or nodes.groups.items k group).members.items in
      let there = h.1 k group own lt in
      elim there.0 [
        | inl so_far ↦ elim (contains_or (touched places step) k) [
          | inl t ↦ there.1 t
          | inr not ↦ flight_same g rows now members (get_or flights k own) some
              (λ w c. ap (λ (r : List Reach). at_row r w) made ∙ untouched places step row w k (listed nodes places k group w filled lt c) not ∙ ap (λ (r : List Reach). at_row r w) last) so_far
        ]
        | inr onto ↦ onto.0
      ],
)

-- what is listed for one of some changes
pub touched_at : (lists : List (List ℕ)) (xs : List Change) (i : ℕ) (d : Change) (k : ℕ) → i < length xs → Contains (get_or lists (get_or xs i d).position []) k → Contains (touched lists xs) k
touched_at lists [] i d k within c = absurd (omega (arith, within))
touched_at lists (x ∷ xs) zero d k within c = Contains-append_left (get_or lists x.position []) (touched lists xs) k c
touched_at lists (x ∷ xs) (suc i) d k within c = Contains-append_right (get_or lists x.position []) (touched lists xs) k (touched_at lists xs i d k (omega (arith, within)) c)

-- each list of memberships names groups
pub memberships_within : (nodes : Nodes) (places : List (Vec ℕ Global)) → AreMemberships nodes (map (λ (l : Vec ℕ Global). l.items) places) → All (λ l. All (λ k. k < length nodes.groups.items) l.items) places
memberships_within nodes places h i d lt =
    let size = length-map places (λ (l : Vec ℕ Global). l.items) in
    let inside : i < length nodes.items.items = omega (arith, size, h.count, lt) in
    subst (λ (ks : List ℕ). All (λ k. k < length nodes.groups.items) ks) (get_or-map (λ (l : Vec ℕ Global). l.items) places i d [] lt) (h.each i inside).within

pub within_at : (nodes : Nodes) (places : List (Vec ℕ Global)) (p : ℕ) → All (λ l. All (λ k. k < length nodes.groups.items) l.items) places → All (λ k. k < length nodes.groups.items) (get_or (map (λ (l : Vec ℕ Global). l.items) places) p [])
within_at nodes [] p h = λ i d lt. absurd (omega (arith, lt))
within_at nodes (x ∷ places) zero h = h 0 x (omega arith)
within_at nodes (x ∷ places) (suc p) h = within_at nodes places p (λ i d lt. h (suc i) d (omega (arith, lt)))
