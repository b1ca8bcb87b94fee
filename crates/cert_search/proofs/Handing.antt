-- Rows raised in place, and what is handed on.
use Rattle.std.proofs.Common.{◌≡◌, ◌≢◌, ℕ, ◌+◌, ◌<◌, ◌≤◌, List, [], ◌∷◌, ◌++◌, length, take, get_or, set, replicate, arith, sym, ap, ◌∙◌, subst, refl, inl, inr, get_or-set_same, get_or-set_other}
use Rattle.std.specs.Prelude.{◌⊎◌, ◌↔◌, All, Contains}
use Rattle.std.proofs.lemmas.Bool.{cases_lt}
use Rattle.std.proofs.lemmas.List.{take_more, get_or_past, get_or_default, get_or-map, get_or-replicate, length-replicate}
use Rattle.std.proofs.lemmas.List.Elements.{Contains-get_or, Contains-append_left, Contains-push, Contains-push_cases}
use Rattle.smallvec.specs.SmallVec.{SmallVec}
use Rattle.cert_graph.specs.declared.reach.Reach.{Reach}
use Rattle.cert_graph.specs.declared.reach.Reach.TheVariants.{No, UpTo, Any as Each}
use Rattle.cert_graph.specs.declared.nodes.Group.{Group}
use Rattle.cert_graph.specs.declared.nodes.Nodes.{Nodes}
use Rattle.cert_graph.specs.Reach.{Takes, IsAtMost}
use Rattle.cert_graph.specs.Graph.{Graph}
use Rattle.cert_graph.specs.Adequate.{at_row, changed}
use Rattle.cert_graph.specs.Nodes.{graph_of}
use Rattle.cert_graph.proofs.ReachFacts.{more_takes, at_most_from_takes}
use Rattle.cert_graph.specs.declared.changes.Change.{Change}
use Rattle.cert_search.specs.Rows.{AreOffers, IsRaisedBy, GroupOffers}
use Rattle.cert_search.specs.Rising.{IsGroup, AreAnchored, ArePlaces, AreRaised, HaveRisen, ChangeTakes, MemberTakes, LetsThrough, AreHanded, AreBests}
use Rattle.cert_graph.proofs.Anything.{any_push, any_more}
use Rattle.cert_graph.proofs.Changing.{changed_push}
use Rattle.cert_search.proofs.Offering.{offered_more, issued_more, groups_go_on}
use Rattle.cert_search.proofs.Placing.{apart, same_group, nothing_in, lists_of}

-- a reach that is not within another takes what that takes
pub higher : (r s : Reach) → (IsAtMost r s → ⊥) → (c : ℕ) → Takes s c → Takes r c
higher No s h c t = absurd (h tt)
higher (UpTo m) No h c t = absurd t
higher (UpTo m) (UpTo n) h c t = elim (cases_lt n m) [ inl lt ↦ omega arith | inr ge ↦ absurd (h ge) ]
higher (UpTo m) Each h c t = absurd (h tt)
higher Each s h c t = tt

-- one position more that a row is raised at, and one where it is as high
pub raised_more : (first row : List Reach) (positions : List ℕ) (i : ℕ) (reach : Reach) → i < length positions → get_or positions i 0 < length row → (IsAtMost reach (at_row row (get_or positions i 0)) → ⊥)
    → AreRaised first row (λ v c. Contains (take i positions) v × Takes reach c) → AreRaised first (set row (get_or positions i 0) reach) (λ v c. Contains (take (i + 1) positions) v × Takes reach c)
raised_more first row positions i reach within inside above h =
    issued_more first row positions i reach reach within inside h (λ c. (λ t. inr t, λ o. elim o [ inl t ↦ higher reach (at_row row (get_or positions i 0)) above c t | inr t ↦ t ]))

pub raised_still : (first row : List Reach) (positions : List ℕ) (i : ℕ) (reach : Reach) → i < length positions → IsAtMost reach (at_row row (get_or positions i 0))
    → AreRaised first row (λ v c. Contains (take i positions) v × Takes reach c) → AreRaised first row (λ v c. Contains (take (i + 1) positions) v × Takes reach c)
raised_still first row positions i reach within le h v c =
    rw (take_more positions i 0 within) (
      λ t. elim ((h v c).0 t) [ inl y ↦ inl y | inr y ↦ inr (Contains-append_left (take i positions) (get_or positions i 0 ∷ []) v y.0, y.1) ],
      λ o. elim o [
        | inl y ↦ (h v c).1 (inl y)
        | inr y ↦ elim (Contains-push_cases (take i positions) (get_or positions i 0) v y.0) [
          | inl z ↦ (h v c).1 (inr (z, y.1))
          | inr e ↦ subst (λ (u : ℕ). Takes (at_row row u) c) e (more_takes reach (at_row row (get_or positions i 0)) c le y.1)
        ]
      ],
    )

-- one position more where a row rose
pub risen_more : (first row : List Reach) (before now : List ℕ) (x : ℕ) (reach : Reach) → x < length row → (IsAtMost reach (at_row row x) → ⊥) → ((v c : ℕ) → Takes (at_row first v) c → Takes (at_row row v) c)
    → HaveRisen first row before now → HaveRisen first (set row x reach) before (now ++ x ∷ [])
risen_more first row before now x reach inside above up k = record {
  kept = λ v h. Contains-append_left now (x ∷ []) v (k.kept v h);
  listed = λ v. elim (apart v x) [
    | inl e ↦ inl (subst (Contains (now ++ x ∷ [])) e (Contains-push now x))
    | inr other ↦ elim (k.listed v) [ inl h ↦ inl (Contains-append_left now (x ∷ []) v h) | inr e ↦ inr (get_or-set_other row x v reach No other ∙ e) ]
  ];
  rose = λ v h. elim (apart v x) [
    | inl e ↦ inr (λ le.
        let there = subst (λ (u : ℕ). IsAtMost (at_row (set row x reach) u) (at_row first u)) (sym e) le in
        let here = subst (λ (r : Reach). IsAtMost r (at_row first x)) (get_or-set_same row x reach No inside) there in
        above (at_most_from_takes reach (at_row row x) (λ c t. up x c (more_takes reach (at_row first x) c here t))))
    | inr other ↦ elim (Contains-push_cases now x v h) [
      | inl z ↦ elim (k.rose v z) [
        | inl b ↦ inl b
        | inr n ↦ inr (λ le. n (subst (λ (r : Reach). IsAtMost r (at_row first v)) (get_or-set_other row x v reach No other) le))
      ]
      | inr e ↦ absurd (other (sym e))
    ]
  ];
}

-- a row that is unchanged
pub none_risen : (row : List Reach) (before : List ℕ) → HaveRisen row row before before
none_risen row before = record { kept = λ v h. h; listed = λ v. inr refl; rose = λ v h. inl h }

-- a row that rises twice
pub risen_twice : (first old new : List Reach) (before mid after : List ℕ) → ((v c : ℕ) → Takes (at_row first v) c → Takes (at_row old v) c) → ((v c : ℕ) → Takes (at_row old v) c → Takes (at_row new v) c)
    → HaveRisen first old before mid → HaveRisen old new mid after → HaveRisen first new before after
risen_twice first old new before mid after up more h k = record {
  kept = λ v y. k.kept v (h.kept v y);
  listed = λ v. elim (k.listed v) [ inl y ↦ inl y | inr e ↦ elim (h.listed v) [ inl y ↦ inl (k.kept v y) | inr f ↦ inr (e ∙ f) ] ];
  rose = λ v y. elim (k.rose v y) [
    | inl m ↦ elim (h.rose v m) [
      | inl b ↦ inl b
      | inr n ↦ inr (λ le. n (at_most_from_takes (at_row old v) (at_row first v) (λ c t. more_takes (at_row new v) (at_row first v) c le (more v c t))))
    ]
    | inr n ↦ inr (λ le. n (at_most_from_takes (at_row new v) (at_row old v) (λ c t. up v c (more_takes (at_row new v) (at_row first v) c le t))))
  ];
}

pub raised_twice : (first old new : List Reach) (P Q R : ℕ → ℕ → Type 0) → AreRaised first old P → AreRaised old new Q → ((v c : ℕ) → R v c ↔ (P v c ⊎ Q v c)) → AreRaised first new R
raised_twice first old new P Q R h k e v c = (
  λ t. elim ((k v c).0 t) [
    | inl y ↦ elim ((h v c).0 y) [ inl z ↦ inl z | inr z ↦ inr ((e v c).1 (inl z)) ]
    | inr y ↦ inr ((e v c).1 (inr y))
  ],
  λ o. elim o [
    | inl z ↦ (k v c).1 (inl ((h v c).1 (inl z)))
    | inr z ↦ elim ((e v c).0 z) [ inl y ↦ (k v c).1 (inl ((h v c).1 (inr y))) | inr y ↦ (k v c).1 (inr y) ]
  ],
)

-- one change of a member more, and one at a position that is no member
pub members_more : (places : List (List ℕ)) (changes : List Change) (i : ℕ) (d : Change) (first old new : List Reach) (groups : List ℕ) → i < length changes → groups ≡ get_or places (get_or changes i d).position []
    → AreRaised first old (MemberTakes places (take i changes)) → AreRaised old new (λ k c. Contains groups k × Takes (get_or changes i d).reach c) → AreRaised first new (MemberTakes places (take (i + 1) changes))
members_more places changes i d first old new groups within e h k =
    let x = get_or changes i d in
    raised_twice first old new (MemberTakes places (take i changes)) (λ v c. Contains groups v × Takes x.reach c) (MemberTakes places (take (i + 1) changes)) h k
    (λ v c. subst (λ (gs : List ℕ). MemberTakes places (take (i + 1) changes) v c ↔ (MemberTakes places (take i changes) v c ⊎ (Contains gs v × Takes x.reach c))) (sym e)
    (any_more (λ (y : Change). Contains (get_or places y.position []) v × Takes y.reach c) changes i x within (get_or_default changes i d x within)))

pub members_still : (places : List (List ℕ)) (changes : List Change) (i : ℕ) (d : Change) (first old : List Reach) → i < length changes → length places ≤ (get_or changes i d).position
    → AreRaised first old (MemberTakes places (take i changes)) → AreRaised first old (MemberTakes places (take (i + 1) changes))
members_still places changes i d first old within past h =
    members_more places changes i d first old old [] within (sym (get_or_past places (get_or changes i d).position [] past)) h
    (λ k c. (λ t. inl t, λ o. elim o [ inl y ↦ y | inr y ↦ absurd (nothing_in k y.0) ]))

-- what rose is within the row
pub risen_within : (old new : List Reach) (after : List ℕ) → HaveRisen old new [] after → (v : ℕ) → Contains after v → v < length new
risen_within old new after h v y = elim (h.rose v y) [
  | inl b ↦ absurd (nothing_in v b)
  | inr n ↦ elim (cases_lt v (length new)) [
    | inl lt ↦ lt
    | inr past ↦ absurd (n (subst (λ (r : Reach). IsAtMost r (at_row old v)) (sym (get_or_past new v No past)) tt))
  ]
]

pub all_within : (xs : List ℕ) (n : ℕ) → ((v : ℕ) → Contains xs v → v < n) → All (λ v. v < n) xs
all_within xs n h i d lt = h (get_or xs i d) (Contains-get_or xs i d lt)

-- places are those of groups
pub places_within : (nodes : Nodes) (lists : List (SmallVec ℕ)) → ArePlaces nodes (lists_of lists) → All (λ (l : SmallVec ℕ). All (λ k. k < length nodes.groups.items) l.items) lists
places_within nodes lists p w d lt i e inside =
    let list = get_or lists w d in
    let read = get_or-map (λ (y : SmallVec ℕ). y.items) lists w d [] lt in
    let x = (p w (get_or list.items i e)).0 (subst (λ (xs : List ℕ). Contains xs (get_or list.items i e)) (sym read) (Contains-get_or list.items i e inside)) in
    x.1.0

-- A row that becomes the next one, as far as some positions.
pub record SoRaised (g : Graph) (offers first row : List Reach) (risen : List ℕ) (changes : List Change) : Type 0 where
  pub made : changed first changes ≡ row
  pub taken : AreRaised first row (ChangeTakes changes)
  pub below : (v c : ℕ) → Takes (at_row row v) c → LetsThrough g offers v c
  pub done : (v : ℕ) → Contains risen v → (c : ℕ) → LetsThrough g offers v c → Takes (at_row row v) c

pub row_more : (g : Graph) (offers first row : List Reach) (risen : List ℕ) (i : ℕ) (reach : Reach) (changes : List Change) → i < length risen → get_or risen i 0 < length row → (IsAtMost reach (at_row row (get_or risen i 0)) → ⊥)
    → ((c : ℕ) → Takes reach c ↔ LetsThrough g offers (get_or risen i 0) c) → SoRaised g offers first row (take i risen) changes
    → SoRaised g offers first (set row (get_or risen i 0) reach) (take (i + 1) risen) (changes ++ record { position = get_or risen i 0; reach = reach } ∷ [])
row_more g offers first row risen i reach changes within inside above is h =
    let x = get_or risen i 0 in
    let new : Change = record { position = x; reach = reach } in
    let m = offered_more row x reach reach inside (λ c. (λ t. inr t, λ o. elim o [ inl t ↦ higher reach (at_row row x) above c t | inr t ↦ t ])) in
    let one = λ (v c : ℕ). any_push (λ (y : Change). (y.position ≡ v) × Takes y.reach c) changes new in record {
      made = changed_push first changes new ∙ ap (λ (rs : List Reach). set rs x reach) h.made;
      taken = raised_twice first row (set row x reach) (ChangeTakes changes) (λ v c. (x ≡ v) × Takes reach c) (ChangeTakes (changes ++ new ∷ [])) h.taken m one;
      below = λ v c t. elim ((m v c).0 t) [ inl y ↦ h.below v c y | inr y ↦ subst (λ (u : ℕ). LetsThrough g offers u c) y.0 ((is c).0 y.1) ];
      done = λ v k c l. elim (Contains-push_cases (take i risen) x v (subst (λ (xs : List ℕ). Contains xs v) (take_more risen i 0 within) k)) [
        | inl z ↦ (m v c).1 (inl (h.done v z c l))
        | inr e ↦ (m v c).1 (inr (e, (is c).1 (subst (λ (u : ℕ). LetsThrough g offers u c) (sym e) l)))
      ];
    }

pub row_still : (g : Graph) (offers first row : List Reach) (risen : List ℕ) (i : ℕ) (reach : Reach) (changes : List Change) → i < length risen → IsAtMost reach (at_row row (get_or risen i 0))
    → ((c : ℕ) → Takes reach c ↔ LetsThrough g offers (get_or risen i 0) c) → SoRaised g offers first row (take i risen) changes → SoRaised g offers first row (take (i + 1) risen) changes
row_still g offers first row risen i reach changes within le is h =
    let x = get_or risen i 0 in record {
      made = h.made;
      taken = h.taken;
      below = h.below;
      done = λ v k c l. elim (Contains-push_cases (take i risen) x v (subst (λ (xs : List ℕ). Contains xs v) (take_more risen i 0 within) k)) [
        | inl z ↦ h.done v z c l
        | inr e ↦ subst (λ (u : ℕ). Takes (at_row row u) c) e (more_takes reach (at_row row x) c le ((is c).1 (subst (λ (u : ℕ). LetsThrough g offers u c) (sym e) l)))
      ];
    }

pub row_none : (g : Graph) (offers first : List Reach) → ((v c : ℕ) → Takes (at_row first v) c → LetsThrough g offers v c) → SoRaised g offers first first [] []
row_none g offers first below = record {
  made = refl;
  taken = λ v c. (λ t. inl t, λ o. elim o [ inl y ↦ y | inr y ↦ let lt = y.2 in absurd (omega arith) ]);
  below = below;
  done = λ v k c l. absurd (nothing_in v k);
}

-- all positions where an offer rose
pub row_all : (g : Graph) (offers first row : List Reach) (risen : List ℕ) (changes : List Change) → SoRaised g offers first row risen changes
    → ((v : ℕ) → Contains risen v ⊎ ((c : ℕ) → LetsThrough g offers v c → Takes (at_row first v) c)) → IsRaisedBy g offers row
row_all g offers first row risen changes h fresh v c = (
  h.below v c,
  λ l. elim (fresh v) [ inl y ↦ h.done v y c l | inr k ↦ (h.taken v c).1 (inl (k c l)) ],
)

-- What is handed on, as far as some groups.
pub record SoHanded (nodes : Nodes) (bests first handed offered offers : List Reach) (groups risen : List ℕ) : Type 0 where
  pub passed : AreHanded nodes handed offers
  pub below : (k c : ℕ) → Takes (at_row handed k) c → Takes (at_row bests k) c
  pub kept : (k c : ℕ) → Takes (at_row first k) c → Takes (at_row handed k) c
  pub done : (k : ℕ) → Contains groups k → (c : ℕ) → Takes (at_row bests k) c → Takes (at_row handed k) c
  pub grown : (v c : ℕ) → Takes (at_row offered v) c → Takes (at_row offers v) c
  pub rose : HaveRisen offered offers [] risen

pub handed_none : (nodes : Nodes) (bests handed offers : List Reach) → AreHanded nodes handed offers → ((k c : ℕ) → Takes (at_row handed k) c → Takes (at_row bests k) c) → SoHanded nodes bests handed handed offers offers [] []
handed_none nodes bests handed offers h below = record {
  passed = h;
  below = below;
  kept = λ k c t. t;
  done = λ k y c t. absurd (nothing_in k y);
  grown = λ v c t. t;
  rose = none_risen offers [];
}

pub handed_more : (nodes : Nodes) (bests first handed offered offers next : List Reach) (groups : List ℕ) (i : ℕ) (best : Reach) (group : Group) (risen after : List ℕ) → i < length groups → get_or groups i 0 < length handed
    → IsGroup nodes (get_or groups i 0) group → best ≡ at_row bests (get_or groups i 0) → (IsAtMost best (at_row handed (get_or groups i 0)) → ⊥)
    → AreRaised offers next (λ v c. Contains group.issued.items v × Takes best c) → HaveRisen offers next risen after
    → SoHanded nodes bests first handed offered offers (take i groups) risen → SoHanded nodes bests first (set handed (get_or groups i 0) best) offered next (take (i + 1) groups) after
handed_more nodes bests first handed offered offers next groups i best group risen after within inside is e above raised rose h =
    let x = get_or groups i 0 in
    let m = offered_more handed x best best inside (λ c. (λ t. inr t, λ o. elim o [ inl t ↦ higher best (at_row handed x) above c t | inr t ↦ t ])) in record {
      passed = λ v c. (
        λ t. elim ((raised v c).0 t) [
          | inl y ↦ let z = (h.passed v c).0 y in (z.0, z.1, z.2, z.3, (m z.0 c).1 (inl z.4))
          | inr y ↦ (x, group, is, y.0, (m x c).1 (inr (refl, y.1)))
        ],
        λ z. elim ((m z.0 c).0 z.4) [
          | inl y ↦ (raised v c).1 (inl ((h.passed v c).1 (z.0, z.1, z.2, z.3, y)))
          | inr y ↦ (raised v c).1 (inr (subst (λ (gr : Group). Contains gr.issued.items v) (same_group nodes z.0 z.1 group z.2 (subst (λ (u : ℕ). IsGroup nodes u group) y.0 is)) z.3, y.1))
        ],
      );
      below = λ k c t. elim ((m k c).0 t) [
        | inl y ↦ h.below k c y
        | inr y ↦ subst (λ (u : ℕ). Takes (at_row bests u) c) y.0 (subst (λ (r : Reach). Takes r c) e y.1)
      ];
      kept = λ k c t. (m k c).1 (inl (h.kept k c t));
      done = λ k y c t. elim (Contains-push_cases (take i groups) x k (subst (λ (xs : List ℕ). Contains xs k) (take_more groups i 0 within) y)) [
        | inl z ↦ (m k c).1 (inl (h.done k z c t))
        | inr same ↦ (m k c).1 (inr (same, subst (λ (r : Reach). Takes r c) (sym e) (subst (λ (u : ℕ). Takes (at_row bests u) c) (sym same) t)))
      ];
      grown = λ v c t. (raised v c).1 (inl (h.grown v c t));
      rose = risen_twice offered offers next [] risen after h.grown (λ v c t. (raised v c).1 (inl t)) h.rose rose;
    }

pub handed_still : (nodes : Nodes) (bests first handed offered offers : List Reach) (groups : List ℕ) (i : ℕ) (best : Reach) (risen : List ℕ) → i < length groups
    → best ≡ at_row bests (get_or groups i 0) → IsAtMost best (at_row handed (get_or groups i 0))
    → SoHanded nodes bests first handed offered offers (take i groups) risen → SoHanded nodes bests first handed offered offers (take (i + 1) groups) risen
handed_still nodes bests first handed offered offers groups i best risen within e le h =
    let x = get_or groups i 0 in record {
      passed = h.passed;
      below = h.below;
      kept = h.kept;
      done = λ k y c t. elim (Contains-push_cases (take i groups) x k (subst (λ (xs : List ℕ). Contains xs k) (take_more groups i 0 within) y)) [
        | inl z ↦ h.done k z c t
        | inr same ↦ subst (λ (u : ℕ). Takes (at_row handed u) c) same
            (more_takes best (at_row handed x) c le (subst (λ (r : Reach). Takes r c) (sym e) (subst (λ (u : ℕ). Takes (at_row bests u) c) (sym same) t)))
      ];
      grown = h.grown;
      rose = h.rose;
    }

-- all groups where the best rose
pub handed_all : (nodes : Nodes) (bests first handed offered offers : List Reach) (groups risen : List ℕ) → SoHanded nodes bests first handed offered offers groups risen
    → ((k : ℕ) → Contains groups k ⊎ ((c : ℕ) → Takes (at_row bests k) c → Takes (at_row first k) c)) → (k c : ℕ) → Takes (at_row handed k) c ↔ Takes (at_row bests k) c
handed_all nodes bests first handed offered offers groups risen h listed k c = (
  h.below k c,
  λ t. elim (listed k) [ inl y ↦ h.done k y c t | inr f ↦ h.kept k c (f c t) ],
)

-- What groups may offer, raised group by group to what they offer by a row.
pub record SoBest (nodes : Nodes) (row first bests : List Reach) (i : ℕ) (groups : List ℕ) : Type 0 where
  pub done : (k : ℕ) (group : Group) → IsGroup nodes k group → k < i → (c : ℕ) → Takes (at_row bests k) c ↔ GroupOffers nodes row group c
  pub rest : (k : ℕ) → i ≤ k → at_row bests k ≡ at_row first k
  pub kept : (k c : ℕ) → Takes (at_row first k) c → Takes (at_row bests k) c
  pub risen : HaveRisen first bests [] groups

pub best_more : (nodes : Nodes) (row first bests : List Reach) (i : ℕ) (group : Group) (best : Reach) (groups : List ℕ) → i < length bests → IsGroup nodes i group
    → ((c : ℕ) → Takes best c ↔ GroupOffers nodes row group c) → (IsAtMost best (at_row bests i) → ⊥)
    → SoBest nodes row first bests i groups → SoBest nodes row first (set bests i best) (i + 1) (groups ++ i ∷ [])
best_more nodes row first bests i group best groups inside is offers above h = record {
  done = λ k x at lt c. elim (apart k i) [
    | inl e ↦
        let here : at_row (set bests i best) k ≡ best = subst (λ (u : ℕ). at_row (set bests i best) u ≡ best) e (get_or-set_same bests i best No inside) in
        let same : x ≡ group = same_group nodes i x group (subst (λ (u : ℕ). IsGroup nodes u x) (sym e) at) is in (
          λ t. subst (λ (g : Group). GroupOffers nodes row g c) (sym same) ((offers c).0 (subst (λ (r : Reach). Takes r c) here t)),
          λ o. subst (λ (r : Reach). Takes r c) (sym here) ((offers c).1 (subst (λ (g : Group). GroupOffers nodes row g c) same o)),
        )
    | inr other ↦
        let below : k < i = omega (arith, lt, other) in
        let there : at_row (set bests i best) k ≡ at_row bests k = get_or-set_other bests i k best No other in (
          λ t. (h.done k x at below c).0 (subst (λ (r : Reach). Takes r c) there t),
          λ o. subst (λ (r : Reach). Takes r c) (sym there) ((h.done k x at below c).1 o),
        )
  ];
  rest = λ k le.
      let other : k ≢ i = omega (arith, le) in
      let past : i ≤ k = omega (arith, le) in
      get_or-set_other bests i k best No other ∙ h.rest k past;
  kept = λ k c t. elim (apart k i) [
    | inl e ↦ subst (λ (u : ℕ). Takes (at_row (set bests i best) u) c) e
        (subst (λ (r : Reach). Takes r c) (sym (get_or-set_same bests i best No inside)) (higher best (at_row bests i) above c (subst (λ (u : ℕ). Takes (at_row bests u) c) (sym e) (h.kept k c t))))
    | inr other ↦ subst (λ (r : Reach). Takes r c) (sym (get_or-set_other bests i k best No other)) (h.kept k c t)
  ];
  risen = risen_more first bests [] groups i best inside above h.kept h.risen;
}

pub best_still : (nodes : Nodes) (row first bests : List Reach) (i : ℕ) (group : Group) (best : Reach) (groups : List ℕ) → IsGroup nodes i group
    → ((c : ℕ) → Takes best c ↔ GroupOffers nodes row group c) → IsAtMost best (at_row bests i) → ((c : ℕ) → Takes (at_row first i) c → GroupOffers nodes row group c)
    → SoBest nodes row first bests i groups → SoBest nodes row first bests (i + 1) groups
best_still nodes row first bests i group best groups is offers le below h = record {
  done = λ k x at lt c. elim (apart k i) [
    | inl e ↦
        let same : x ≡ group = same_group nodes i x group (subst (λ (u : ℕ). IsGroup nodes u x) (sym e) at) is in
        let self : i ≤ i = omega arith in (
          λ t. subst (λ (g : Group). GroupOffers nodes row g c) (sym same)
              (below c (subst (λ (r : Reach). Takes r c) (h.rest i self) (subst (λ (u : ℕ). Takes (at_row bests u) c) (sym e) t))),
          λ o. subst (λ (u : ℕ). Takes (at_row bests u) c) e
              (more_takes best (at_row bests i) c le ((offers c).1 (subst (λ (g : Group). GroupOffers nodes row g c) same o))),
        )
    | inr other ↦ let before : k < i = omega (arith, lt, other) in h.done k x at before c
  ];
  rest = λ k past. let at : i ≤ k = omega (arith, past) in h.rest k at;
  kept = h.kept;
  risen = h.risen;
}

-- all groups
pub best_all : (nodes : Nodes) (row first bests : List Reach) (i : ℕ) (groups : List ℕ) → length nodes.groups.items ≤ i → SoBest nodes row first bests i groups → AreBests nodes row bests
best_all nodes row first bests i groups past h k group is c =
    let lt = is.0 in
    let below : k < i = omega (arith, lt, past) in
    h.done k group is below c

-- what groups may offer by the next row
pub bests_next : (nodes : Nodes) (places : List (List ℕ)) (row next bests after : List Reach) (changes : List Change) → ArePlaces nodes places → AreBests nodes row bests
    → AreRaised row next (ChangeTakes changes) → AreRaised bests after (MemberTakes places changes) → AreBests nodes next after
bests_next nodes places row next bests after changes p b taken raised k group is c = (
  λ t. elim ((raised k c).0 t) [
    | inl y ↦ elim ((b k group is c).0 y) [ inl a ↦ inl a | inr w ↦ inr (w.0, w.1, w.2, (taken w.0 c).1 (inl w.3)) ]
    | inr y ↦
        let z = (p y.1.position k).0 y.4.0 in
        inr (
          y.1.position,
          subst (λ (gr : Group). Contains gr.members.items y.1.position) (same_group nodes k z.0 group z.1 is) z.3,
          z.2,
          (taken y.1.position c).1 (inr (y.0, y.1, y.2, y.3, (refl, y.4.1))),
        )
  ],
  λ o. elim o [
    | inl a ↦ (raised k c).1 (inl ((b k group is c).1 (inl a)))
    | inr w ↦ elim ((taken w.0 c).0 w.3) [
      | inl y ↦ (raised k c).1 (inl ((b k group is c).1 (inr (w.0, w.1, w.2, y))))
      | inr y ↦ (raised k c).1 (inr (y.0, y.1, y.2, y.3, (subst (λ (u : ℕ). Contains (get_or places u []) k) (sym y.4.0) ((p w.0 k).1 (group, is, w.2, w.1)), y.4.1)))
    ]
  ],
)

-- what is handed on is how a certificate may go on
pub offers_handed : (nodes : Nodes) (row bests handed offers : List Reach) → AreBests nodes row bests → AreHanded nodes handed offers → ((k c : ℕ) → Takes (at_row handed k) c ↔ Takes (at_row bests k) c) → AreOffers (graph_of nodes) row offers
offers_handed nodes row bests handed offers b h all v c =
    let go = groups_go_on nodes row v c in (
      λ t. let e = (h v c).0 t in go.0 (e.0, e.1, e.2.0, sym e.2.1, (e.3, (b e.0 e.1 e.2 c).0 ((all e.0 c).0 e.4))),
      λ x. let o = go.1 x in
          let is : IsGroup nodes o.0 o.1 = (o.2, sym o.3) in
          (h v c).1 (o.0, o.1, is, o.4.0, (all o.0 c).1 ((b o.0 o.1 is c).1 o.4.1)),
    )

-- a row of nothing
pub none_takes : (n v c : ℕ) → Takes (at_row (replicate n No) v) c → ⊥
none_takes n v c t = elim (cases_lt v n) [
  | inl below ↦ subst (λ (r : Reach). Takes r c) (get_or-replicate n v No No below) t
  | inr above ↦ let size = length-replicate n No in
      let past : length (replicate n No) ≤ v = omega arith in
      subst (λ (r : Reach). Takes r c) (get_or_past (replicate n No) v No past) t
]

-- what groups may offer by a row of nothing
pub bests_none : (nodes : Nodes) (anchored : List ℕ) (m n : ℕ) (bests : List Reach) → AreAnchored nodes anchored → AreRaised (replicate m No) bests (λ k c. Contains anchored k × Takes Each c) → AreBests nodes (replicate n No) bests
bests_none nodes anchored m n bests a raised k group is c = (
  λ t. elim ((raised k c).0 t) [
    | inl y ↦ absurd (none_takes m k c y)
    | inr y ↦ let z = (a k).0 y.0 in inl (subst (λ (gr : Group). 0 < length gr.anchors.items) (same_group nodes k z.0 group z.1 is) z.2)
  ],
  λ o. elim o [ inl some ↦ (raised k c).1 (inr ((a k).1 (group, is, some), tt)) | inr w ↦ absurd (none_takes n w.0 c w.3) ],
)
