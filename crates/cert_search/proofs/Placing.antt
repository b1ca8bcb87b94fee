-- Groups given by their places.
use Rattle.std.proofs.Common.{◌≡◌, ◌≢◌, ℕ, ◌+◌, ◌<◌, ◌≤◌, List, [], ◌∷◌, ◌++◌, length, take, get_or, set, map, arith, sym, ap, ◌∙◌, subst, refl, inl, inr, get_or-set_same, get_or-set_other}
use Rattle.std.specs.Prelude.{◌⊎◌, ◌↔◌, All, Contains}
use Rattle.std.proofs.lemmas.Bool.{cases_lt}
use Rattle.std.proofs.lemmas.List.{take_more, get_or_default, get_or_past, get_or-map, length-map, map-set}
use Rattle.std.proofs.lemmas.List.Elements.{Contains-append_left, Contains-push, Contains-push_cases}
use Rattle.smallvec.specs.SmallVec.{SmallVec}
use Rattle.cert_graph.specs.declared.nodes.Group.{Group}
use Rattle.cert_graph.specs.declared.nodes.Nodes.{Nodes}
use Rattle.cert_graph.specs.Nodes.{graph_of}
use Rattle.cert_graph.proofs.PlacesOfNodes.{element_at}
use Rattle.cert_search.specs.Rising.{IsGroup, AreNoted, ArePlaces, AreAnchored}

-- two numbers are one or not
pub apart : (v x : ℕ) → (x ≡ v) ⊎ (v ≢ x)
apart v x = elim (cases_lt v x) [
  | inl below ↦ let other : v ≢ x = omega arith in inr other
  | inr above ↦ elim (cases_lt x v) [
    | inl below ↦ let other : v ≢ x = omega arith in inr other
    | inr ge ↦ inl (omega arith)
  ]
]

-- one group is at a place
pub same_group : (nodes : Nodes) (k : ℕ) (x y : Group) → IsGroup nodes k x → IsGroup nodes k y → x ≡ y
same_group nodes k x y h l = h.1 ∙ get_or_default nodes.groups.items k x y h.0 ∙ sym l.1

pub nothing_in : (v : ℕ) → Contains {X = ℕ} [] v → ⊥
nothing_in v h = omega (arith, h.1)

-- lists of places, as the code keeps them
abbrev pub lists_of : List (SmallVec ℕ) → List (List ℕ)
lists_of lists = map (λ (l : SmallVec ℕ). l.items) lists

pub read_list : (lists : List (SmallVec ℕ)) (x : ℕ) (l : SmallVec ℕ) → x < length lists → l ≡ get_or lists x l → get_or (lists_of lists) x [] ≡ l.items
read_list lists x l within is = get_or-map (λ (y : SmallVec ℕ). y.items) lists x l [] within ∙ ap (λ (y : SmallVec ℕ). y.items) (sym is)

-- one place more in one of the lists
pub noted_once : (lists : List (SmallVec ℕ)) (x place : ℕ) (old new : SmallVec ℕ) → x < length lists → old ≡ get_or lists x old → new.items ≡ old.items ++ place ∷ []
    → (w k : ℕ) → Contains (get_or (lists_of (set lists x new)) w []) k ↔ (Contains (get_or (lists_of lists) w []) k ⊎ ((x ≡ w) × (k ≡ place)))
noted_once lists x place old new within is push w k =
    let all = map-set (λ (y : SmallVec ℕ). y.items) lists x new in
    let size = length-map lists (λ (y : SmallVec ℕ). y.items) in
    let inside : x < length (lists_of lists) = omega arith in
    elim (apart w x) [
      | inl e ↦
          let same : get_or (lists_of (set lists x new)) x [] ≡ get_or (lists_of lists) x [] ++ place ∷ [] =
          ap (λ (xs : List (List ℕ)). get_or xs x []) all ∙ get_or-set_same (lists_of lists) x new.items [] inside ∙ push ∙ ap (λ (xs : List ℕ). xs ++ place ∷ []) (sym (read_list lists x old within is)) in
          subst (λ (u : ℕ). Contains (get_or (lists_of (set lists x new)) u []) k ↔ (Contains (get_or (lists_of lists) u []) k ⊎ ((x ≡ u) × (k ≡ place)))) e (
            λ h. elim (Contains-push_cases (get_or (lists_of lists) x []) place k (subst (λ (xs : List ℕ). Contains xs k) same h)) [ inl y ↦ inl y | inr y ↦ inr (refl, sym y) ],
            λ o. subst (λ (xs : List ℕ). Contains xs k) (sym same) (elim o [
              | inl y ↦ Contains-append_left (get_or (lists_of lists) x []) (place ∷ []) k y
              | inr y ↦ subst (Contains (get_or (lists_of lists) x [] ++ place ∷ [])) (sym y.1) (Contains-push (get_or (lists_of lists) x []) place)
            ]),
          )
      | inr other ↦
          let same : get_or (lists_of (set lists x new)) w [] ≡ get_or (lists_of lists) w [] =
          ap (λ (xs : List (List ℕ)). get_or xs w []) all ∙ get_or-set_other (lists_of lists) x w new.items [] other in (
            λ h. inl (subst (λ (xs : List ℕ). Contains xs k) same h),
            λ o. elim o [ inl y ↦ subst (λ (xs : List ℕ). Contains xs k) (sym same) y | inr y ↦ absurd (other (sym y.0)) ],
          )
    ]

-- one member more, fit or not
abbrev pub NotedSoFar : Nodes → List ℕ → ℕ → List (List ℕ) → List (List ℕ) → Type 0
NotedSoFar nodes members place old new =
    (w k : ℕ) → Contains (get_or new w []) k ↔ (Contains (get_or old w []) k ⊎ ((k ≡ place) × (graph_of nodes).Fit w × Contains members w))

pub noted_more : (nodes : Nodes) (members : List ℕ) (i place : ℕ) (first : List (List ℕ)) (lists : List (SmallVec ℕ)) (old new : SmallVec ℕ) → i < length members → get_or members i 0 < length lists
    → old ≡ get_or lists (get_or members i 0) old → new.items ≡ old.items ++ place ∷ [] → (graph_of nodes).Fit (get_or members i 0)
    → NotedSoFar nodes (take i members) place first (lists_of lists) → NotedSoFar nodes (take (i + 1) members) place first (lists_of (set lists (get_or members i 0) new))
noted_more nodes members i place first lists old new within inside is push fit h w k =
    let m = noted_once lists (get_or members i 0) place old new inside is push w k in
    rw (take_more members i 0 within) (
      λ t. elim (m.0 t) [
        | inl y ↦ elim ((h w k).0 y) [ inl z ↦ inl z | inr z ↦ inr (z.0, z.1, Contains-append_left (take i members) (get_or members i 0 ∷ []) w z.2) ]
        | inr y ↦ inr (y.1, subst (λ (u : ℕ). (graph_of nodes).Fit u) y.0 fit, subst (Contains (take i members ++ get_or members i 0 ∷ [])) y.0 (Contains-push (take i members) (get_or members i 0)))
      ],
      λ o. elim o [
        | inl y ↦ m.1 (inl ((h w k).1 (inl y)))
        | inr y ↦ elim (Contains-push_cases (take i members) (get_or members i 0) w y.2) [
          | inl z ↦ m.1 (inl ((h w k).1 (inr (y.0, y.1, z))))
          | inr e ↦ m.1 (inr (e, y.0))
        ]
      ],
    )

pub unnoted_more : (nodes : Nodes) (members : List ℕ) (i place : ℕ) (first lists : List (List ℕ)) → i < length members → ((graph_of nodes).Fit (get_or members i 0) → ⊥)
    → NotedSoFar nodes (take i members) place first lists → NotedSoFar nodes (take (i + 1) members) place first lists
unnoted_more nodes members i place first lists within unfit h w k =
    rw (take_more members i 0 within) (
      λ t. elim ((h w k).0 t) [ inl z ↦ inl z | inr z ↦ inr (z.0, z.1, Contains-append_left (take i members) (get_or members i 0 ∷ []) w z.2) ],
      λ o. elim o [
        | inl y ↦ (h w k).1 (inl y)
        | inr y ↦ elim (Contains-push_cases (take i members) (get_or members i 0) w y.2) [
          | inl z ↦ (h w k).1 (inr (y.0, y.1, z))
          | inr e ↦ absurd (unfit (subst (λ (u : ℕ). (graph_of nodes).Fit u) (sym e) y.1))
        ]
      ],
    )

-- the groups before a place
abbrev pub PlacesBelow : Nodes → ℕ → List (List ℕ) → Type 0
PlacesBelow nodes i places =
    (w k : ℕ) → Contains (get_or places w []) k ↔ ((k < i) × ((group : Group) × IsGroup nodes k group × (graph_of nodes).Fit w × Contains group.members.items w))

pub places_none : (nodes : Nodes) (lists : List (SmallVec ℕ)) → All (λ l. l.items ≡ []) lists → PlacesBelow nodes 0 (lists_of lists)
places_none nodes lists empty w k =
    let same : get_or (lists_of lists) w [] ≡ [] = elim (cases_lt w (length lists)) [
      | inl below ↦ let x = element_at lists w below in get_or-map (λ (y : SmallVec ℕ). y.items) lists w x.0 [] below ∙ empty w x.0 below
      | inr above ↦ let size = length-map lists (λ (y : SmallVec ℕ). y.items) in
          let past : length (lists_of lists) ≤ w = omega arith in
          get_or_past (lists_of lists) w [] past
    ] in (
      λ t. absurd (nothing_in k (subst (λ (xs : List ℕ). Contains xs k) same t)),
      λ o. let lt = o.0 in absurd (omega (arith, lt)),
    )

pub places_more : (nodes : Nodes) (i : ℕ) (group : Group) (old new : List (List ℕ)) → IsGroup nodes i group → PlacesBelow nodes i old → AreNoted nodes group i old new → PlacesBelow nodes (i + 1) new
places_more nodes i group old new is h k w p = (
  λ t. elim ((k w p).0 t) [
    | inl y ↦ let z = (h w p).0 y in let below = z.0 in (omega arith, z.1)
    | inr y ↦ let e = y.0 in (omega arith, (group, subst (λ (u : ℕ). IsGroup nodes u group) (sym e) is, y.1, y.2))
  ],
  λ o. let lt = o.0 in let x = o.1 in elim (apart p i) [
    | inl e ↦ (k w p).1 (inr (sym e, x.2, subst (λ (g : Group). Contains g.members.items w) (same_group nodes i x.0 group (subst (λ (u : ℕ). IsGroup nodes u x.0) (sym e) x.1) is) x.3))
    | inr other ↦ let below : p < i = omega (arith, lt, other) in (k w p).1 (inl ((h w p).1 (below, x)))
  ],
)

pub places_all : (nodes : Nodes) (i : ℕ) (places : List (List ℕ)) → length nodes.groups.items ≤ i → PlacesBelow nodes i places → ArePlaces nodes places
places_all nodes i places past h w k = (
  λ t. ((h w k).0 t).1,
  λ x. let lt = x.1.0 in let below : k < i = omega (arith, lt, past) in (h w k).1 (below, x),
)

-- the anchored groups before a place
abbrev pub AnchoredBelow : Nodes → ℕ → List ℕ → Type 0
AnchoredBelow nodes i anchored = (k : ℕ) → Contains anchored k ↔ ((k < i) × ((group : Group) × IsGroup nodes k group × (0 < length group.anchors.items)))

pub anchored_more : (nodes : Nodes) (i : ℕ) (group : Group) (anchored : List ℕ) → IsGroup nodes i group → 0 < length group.anchors.items → AnchoredBelow nodes i anchored → AnchoredBelow nodes (i + 1) (anchored ++ i ∷ [])
anchored_more nodes i group anchored is some h k = (
  λ t. elim (Contains-push_cases anchored i k t) [
    | inl y ↦ let z = (h k).0 y in let below = z.0 in (omega arith, z.1)
    | inr e ↦ (omega arith, (group, subst (λ (u : ℕ). IsGroup nodes u group) e is, some))
  ],
  λ o. let lt = o.0 in elim (apart k i) [
    | inl e ↦ subst (Contains (anchored ++ i ∷ [])) e (Contains-push anchored i)
    | inr other ↦ let below : k < i = omega (arith, lt, other) in Contains-append_left anchored (i ∷ []) k ((h k).1 (below, o.1))
  ],
)

pub unanchored_more : (nodes : Nodes) (i : ℕ) (group : Group) (anchored : List ℕ) → IsGroup nodes i group → (0 < length group.anchors.items → ⊥) → AnchoredBelow nodes i anchored → AnchoredBelow nodes (i + 1) anchored
unanchored_more nodes i group anchored is none h k = (
  λ t. let z = (h k).0 t in let below = z.0 in (omega arith, z.1),
  λ o. let lt = o.0 in let x = o.1 in elim (apart k i) [
    | inl e ↦ absurd (none (subst (λ (g : Group). 0 < length g.anchors.items) (same_group nodes i x.0 group (subst (λ (u : ℕ). IsGroup nodes u x.0) (sym e) x.1) is) x.2))
    | inr other ↦ let below : k < i = omega (arith, lt, other) in (h k).1 (below, x)
  ],
)

pub anchored_all : (nodes : Nodes) (i : ℕ) (anchored : List ℕ) → length nodes.groups.items ≤ i → AnchoredBelow nodes i anchored → AreAnchored nodes anchored
anchored_all nodes i anchored past h k = (
  λ t. ((h k).0 t).1,
  λ x. let lt = x.1.0 in let below : k < i = omega (arith, lt, past) in (h k).1 (below, x),
)
