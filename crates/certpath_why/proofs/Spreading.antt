-- Marks and the queue of what is reached.
use Rattle.std.specs.Prelude.{◌↔◌, ◌⊎◌}
use Rattle.std.proofs.Common.{◌≡◌, ◌≢◌, ◌∙◌, ap, sym, subst, refl, ℕ, zero, suc, ◌+◌, ◌<◌, ◌≤◌, Bool, true, false, List, [], ◌∷◌, ◌++◌, length, set, take, length-append, arith, append_assoc, get_or, inl, inr}
use Rattle.std.specs.List.{Contains}
use Rattle.std.specs.List.Sorted.{IsStrictlyIncreasing}
use Rattle.std.proofs.Math.ListN.{get_or-append}
use Rattle.std.proofs.Math.Seq.{get_or-append_seam}
use Rattle.std.proofs.lemmas.Bool.{cases_lt, cases_eq, false≢true}
use Rattle.std.proofs.lemmas.List.{append-nil, take_more, get_or-set_same, get_or-set_other, get_or_default, get_or_past}
use Rattle.std.proofs.lemmas.List.Elements.{Contains-append_left, Contains-append_right, Contains-append_cases, Contains-push, Contains-push_cases}
use Rattle.cert_graph.proofs.Sifted.{push_ascends}
use Rattle.cert_judge.proofs.Grouping.{element, one_certificate}
use Rattle.cert_judge.specs.Revoking.{Item}
use Rattle.cert_model.specs.Fields.{Certificate}
use Rattle.cert_model.specs.Octets.{name_octets}
use Rattle.certpath_why.specs.Found.{AreSpent, IsMarked, Spreads, SpreadsFrom, AreSpread}
use Rattle.certpath_why.specs.Reached.{HasSubject, IsCertificateAt, IsIssuerByName, IsReachedIn, IsReached, IsFurther, ArePositions}

-- ---- marks

pub record Unmarked (k : ℕ) (marks : List Bool) : Type 0 where
  pub count : length marks ≡ k
  pub none : (u : ℕ) → IsMarked marks u → ⊥

pub unmarked_none : Unmarked 0 []
unmarked_none = record { count = refl; none = λ u m. false≢true m }

pub unmarked_more : (k : ℕ) (marks : List Bool) → Unmarked k marks → Unmarked (k + 1) (marks ++ false ∷ [])
unmarked_more k marks h = record {
  count = let long = length-append marks (false ∷ []) in let c = h.count in omega arith;
  none = λ u m. elim (cases_lt u (length marks)) [
    | inl lt ↦ h.none u (sym (get_or-append marks (false ∷ []) false u lt) ∙ m)
    | inr past ↦ elim (cases_eq u (length marks)) [
      | inl e ↦ false≢true (sym (ap (λ i. get_or (marks ++ false ∷ []) i false) e ∙ get_or-append_seam marks false [] false) ∙ m)
      | inr apart ↦
          let long = length-append marks (false ∷ []) in
          let beyond : length (marks ++ false ∷ []) ≤ u = omega (arith, apart) in
          false≢true (sym (get_or_past (marks ++ false ∷ []) u false beyond) ∙ m)
    ]
  ];
}

-- what is marked is within
pub marked_within : (marks : List Bool) (u : ℕ) → IsMarked marks u → u < length marks
marked_within marks u m = elim (cases_lt u (length marks)) [
  | inl lt ↦ lt
  | inr past ↦ absurd (false≢true (sym (get_or_past marks u false past) ∙ m))
]

pub put_marked : (marks : List Bool) (v : ℕ) → v < length marks → (u : ℕ) → IsMarked (set marks v true) u ↔ (IsMarked marks u ⊎ (u ≡ v))
put_marked marks v lt u = elim (cases_eq u v) [
  | inl e ↦ (λ m. inr e, λ m. ap (λ i. get_or (set marks v true) i false) e ∙ get_or-set_same marks v true false lt)
  | inr apart ↦
      let other = get_or-set_other marks v u true false apart in (
        λ m. inl (sym other ∙ m),
        λ m. elim m [ inl old ↦ other ∙ old | inr e ↦ absurd (apart e) ],
      )
]

-- ---- spreading

pub spreads_none : (marks : List Bool) (queue : List ℕ) → Spreads [] marks queue marks queue
spreads_none marks queue = record {
  count = refl;
  kept = λ u m. m;
  more = [];
  queue_is = sym (append-nil queue);
  more_are = λ u c. c;
  queued = λ u old m. old m;
  marked = λ u c. absurd (omega (arith, c.1));
}

pub spreads_marked : (ps : List ℕ) (marks : List Bool) (queue : List ℕ) → ((u : ℕ) → Contains ps u → IsMarked marks u) → Spreads ps marks queue marks queue
spreads_marked ps marks queue all = record {
  count = refl;
  kept = λ u m. m;
  more = [];
  queue_is = sym (append-nil queue);
  more_are = λ u c. absurd (omega (arith, c.1));
  queued = λ u old m. old m;
  marked = all;
}

pub spreads_known : (v : ℕ) (marks : List Bool) (queue : List ℕ) → IsMarked marks v → Spreads (v ∷ []) marks queue marks queue
spreads_known v marks queue known = record {
  count = refl;
  kept = λ u m. m;
  more = [];
  queue_is = sym (append-nil queue);
  more_are = λ u c. absurd (omega (arith, c.1));
  queued = λ u old m. old m;
  marked = λ u c. elim (Contains-push_cases [] v u c) [ inl n ↦ absurd (omega (arith, n.1)) | inr e ↦ subst (IsMarked marks) e known ];
}

pub spreads_new : (v : ℕ) (marks new : List Bool) (queue longer : List ℕ) → length new ≡ length marks → ((u : ℕ) → IsMarked new u ↔ (IsMarked marks u ⊎ (u ≡ v))) → longer ≡ queue ++ v ∷ [] → Spreads (v ∷ []) marks queue new longer
spreads_new v marks new queue longer count exact is = record {
  count = count;
  kept = λ u m. (exact u).1 (inl m);
  more = v ∷ [];
  queue_is = is;
  more_are = λ u c. c;
  queued = λ u old m. subst (λ l. Contains l u) (sym is) (elim ((exact u).0 m) [
    | inl was ↦ Contains-append_left queue (v ∷ []) u (old was)
    | inr e ↦ subst (Contains (queue ++ v ∷ [])) (sym e) (Contains-push queue v)
  ]);
  marked = λ u c. elim (Contains-push_cases [] v u c) [ inl n ↦ absurd (omega (arith, n.1)) | inr e ↦ (exact u).1 (inr (sym e)) ];
}

pub spreads_then : (ps qs : List ℕ) (a b c : List Bool) (x y z : List ℕ) → Spreads ps a x b y → Spreads qs b y c z → Spreads (ps ++ qs) a x c z
spreads_then ps qs a b c x y z g h = record {
  count = h.count ∙ g.count;
  kept = λ u m. h.kept u (g.kept u m);
  more = g.more ++ h.more;
  queue_is = h.queue_is ∙ ap (λ l. l ++ h.more) g.queue_is ∙ append_assoc x g.more h.more;
  more_are = λ u m. elim (Contains-append_cases g.more h.more u m) [
    | inl one ↦ Contains-append_left ps qs u (g.more_are u one)
    | inr two ↦ Contains-append_right ps qs u (h.more_are u two)
  ];
  queued = λ u old m. h.queued u (g.queued u old) m;
  marked = λ u m. elim (Contains-append_cases ps qs u m) [
    | inl one ↦ h.kept u (g.marked u one)
    | inr two ↦ h.marked u two
  ];
}

pub spreads_more : (ps : List ℕ) (k : ℕ) (d : ℕ) (a b c : List Bool) (x y z : List ℕ) → k < length ps → Spreads (take k ps) a x b y → Spreads (get_or ps k d ∷ []) b y c z → Spreads (take (k + 1) ps) a x c z
spreads_more ps k d a b c x y z lt g h = subst (λ l. Spreads l a x c z) (sym (take_more ps k d lt)) (spreads_then (take k ps) (get_or ps k d ∷ []) a b c x y z g h)

-- ---- names that are spent

one_subject : (items : List Item) (a b : List ℕ) (w : ℕ) → HasSubject items a w → HasSubject items b w → a ≡ b
one_subject items a b w g h =
    let e = (element items w g.0).0 in
    let x = g.1 e in
    let y = h.1 e in
    let same : x.0 ≡ y.0 = one_certificate (get_or items w e).class x.0 y.0 x.1 y.1 in
    sym x.2 ∙ ap (λ (c : Certificate). name_octets c.subject) same ∙ y.2

pub spent_none : (items : List Item) (spent marks : List Bool) → length spent ≡ length items → ((u : ℕ) → IsMarked spent u → ⊥) → AreSpent items spent marks
spent_none items spent marks count none = record { count = count; whole = λ u w name m. absurd (none u m) }

pub spent_more : (items : List Item) (spent new marks wider : List Bool) (queue longer : List ℕ) (ps : List ℕ) (name : List ℕ) (first : ℕ) → AreSpent items spent marks → Spreads ps marks queue wider longer → ArePositions (HasSubject items name) ps
    → Contains ps first → length new ≡ length spent → ((u : ℕ) → IsMarked new u ↔ (IsMarked spent u ⊎ (u ≡ first))) → AreSpent items new wider
spent_more items spent new marks wider queue longer ps name first h s are in_first count exact = record {
  count = count ∙ h.count;
  whole = λ u w other m one two. elim ((exact u).0 m) [
    | inl old ↦ s.kept w (h.whole u w other old one two)
    | inr e ↦
        let same : other ≡ name = one_subject items other name first (subst (HasSubject items other) e one) ((are.exact first).0 in_first) in
        s.marked w ((are.exact w).1 (subst (λ n. HasSubject items n w) same two))
  ];
}

-- ---- what is reached

at_certificate : (items : List Item) (v w : ℕ) → IsIssuerByName items v w → IsCertificateAt items v
at_certificate items v w h = (h.0, λ d. let x = h.1 d in (x.0, x.1, tt))

-- what a certificate leads to is one
to_certificate : (items : List Item) (v w : ℕ) (d : Item) → IsIssuerByName items v w → IsCertificateAt items w
to_certificate items v w d h = let there = (h.1 d).2 in (there.0, λ e. let y = there.1 e in (y.0, y.1, tt))

-- some item, if there is one
some_item : (items : List Item) (v : ℕ) → v < length items → Item
some_item [] v lt = absurd (omega arith)
some_item (x ∷ xs) v lt = x

reached_in_more : (items : List Item) (k v u w : ℕ) → IsReachedIn items k v u → IsIssuerByName items u w → IsReachedIn items (suc k) v w
reached_in_more items zero v u w h step = (w, subst (λ z. IsIssuerByName items z w) (sym h.1) step, (to_certificate items u w (some_item items u step.0) step, refl))
reached_in_more items (suc k) v u w h step = (h.0, h.1, reached_in_more items k h.0 u w h.2 step)

pub reached_more : (items : List Item) (v u w : ℕ) → IsReached items v u → IsIssuerByName items u w → IsReached items v w
reached_more items v u w h step = (suc h.0, reached_in_more items h.0 v u w h.1 step)

pub reached_from : (items : List Item) (k v w : ℕ) → IsReachedIn items k v w → IsCertificateAt items v
reached_from items zero v w h = h.0
reached_from items (suc k) v w h = at_certificate items v h.0 h.1

reached_to : (items : List Item) (k v w : ℕ) → IsReachedIn items k v w → IsCertificateAt items w
reached_to items zero v w h = subst (IsCertificateAt items) h.1 h.0
reached_to items (suc k) v w h = reached_to items k h.0 w h.2

pub further_certificate : (items : List Item) (target v : ℕ) → IsFurther items target v → IsCertificateAt items v
further_certificate items target v h = reached_to items h.0.0 target v h.0.1

walk : (items : List Item) (marks : List Bool) (closed : (v w : ℕ) → IsMarked marks v → IsIssuerByName items v w → IsMarked marks w) → (k v w : ℕ) → IsMarked marks v → IsReachedIn items k v w → IsMarked marks w
walk items marks closed zero v w m h = subst (IsMarked marks) h.1 m
walk items marks closed (suc k) v w m h = walk items marks closed k h.0 w (closed v h.0 m h.1) h.2

-- ---- the loop

pub spread_begun : (items : List Item) (target : ℕ) (marks new : List Bool) (queue : List ℕ) → IsCertificateAt items target → length marks ≡ length items → ((u : ℕ) → IsMarked marks u → ⊥) → Spreads (target ∷ []) marks [] new queue → AreSpread items target new queue 0
spread_begun items target marks new queue cert count none h = record {
  count = h.count ∙ count;
  start = h.marked target (Contains-push [] target);
  sound = λ u c. elim (Contains-push_cases [] target u (h.more_are u (subst (λ l. Contains l u) h.queue_is c))) [
    | inl n ↦ absurd (omega (arith, n.1))
    | inr e ↦ (0, (cert, e))
  ];
  queued = λ u m. h.queued u (λ old. absurd (none u old)) m;
  closed = λ i w lt. absurd (omega (arith, lt));
}

pub spread_more : (items : List Item) (target done place : ℕ) (marks new : List Bool) (queue longer : List ℕ) → done < length queue → place ≡ get_or queue done 0 → AreSpread items target marks queue done → SpreadsFrom items place marks queue new longer
    → AreSpread items target new longer (done + 1)
spread_more items target done place marks new queue longer lt at h s =
    let has : Contains queue place = (done, lt, get_or_default queue done place 0 lt ∙ sym at) in
    let reached = h.sound place has in
    let g = s.spreads in
    record {
      count = g.count ∙ h.count;
      start = g.kept target h.start;
      sound = λ u c. elim (Contains-append_cases queue g.more u (subst (λ l. Contains l u) g.queue_is c)) [
        | inl old ↦ h.sound u old
        | inr new ↦ reached_more items target place u reached ((s.exact u).0 (g.more_are u new))
      ];
      queued = λ u m. g.queued u (h.queued u) m;
      closed = λ i w below within step. elim (cases_lt i done) [
        | inl less ↦
            let inside : i < length queue = omega arith in
            let same : get_or longer i 0 ≡ get_or queue i 0 = ap (λ l. get_or l i 0) g.queue_is ∙ get_or-append queue g.more 0 i inside in
            g.kept w (h.closed i w less inside (subst (λ z. IsIssuerByName items z w) same step))
        | inr past ↦
            let here : i ≡ done = omega arith in
            let same : get_or longer i 0 ≡ place = ap (λ l. get_or l i 0) g.queue_is ∙ ap (λ j. get_or (queue ++ g.more) j 0) here ∙ get_or-append queue g.more 0 done lt ∙ sym at in
            g.marked w ((s.exact w).1 (subst (λ z. IsIssuerByName items z w) same step))
      ];
    }

pub spread_all : (items : List Item) (target done : ℕ) (marks : List Bool) (queue : List ℕ) → length queue ≤ done → AreSpread items target marks queue done → (u : ℕ) → IsMarked marks u ↔ IsReached items target u
spread_all items target done marks queue le h u = (
  λ m. h.sound u (h.queued u m),
  λ r. walk items marks (λ v w m step.
      let c = h.queued v m in
      let lt = c.1 in
      let same : v ≡ get_or queue c.0 0 = sym c.2 ∙ get_or_default queue c.0 v 0 c.1 in
      h.closed c.0 w (omega arith) c.1 (subst (λ z. IsIssuerByName items z w) same step)) r.0 target u h.start r.1,
)

pub nothing_reached : (items : List Item) (target : ℕ) (marks : List Bool) → ((u : ℕ) → IsMarked marks u → ⊥) → (IsCertificateAt items target → ⊥) → (u : ℕ) → IsMarked marks u ↔ IsReached items target u
nothing_reached items target marks none never u = (λ m. absurd (none u m), λ r. absurd (never (reached_from items r.0 target u r.1)))

-- ---- positions

pub record MarkedUpTo (marks : List Bool) (left k : ℕ) (out : List ℕ) : Type 0 where
  pub ascends : IsStrictlyIncreasing out
  pub exact : (v : ℕ) → Contains out v ↔ ((v < k) × IsMarked marks v × (v ≢ left))

pub marked_none : (marks : List Bool) (left : ℕ) → MarkedUpTo marks left 0 []
marked_none marks left = record {
  ascends = λ k lt. absurd (omega (arith, lt));
  exact = λ v. (λ c. absurd (omega (arith, c.1)), λ h. absurd (omega (arith, h.0)));
}

pub marked_same : (marks : List Bool) (left k : ℕ) (out : List ℕ) → MarkedUpTo marks left k out → (IsMarked marks k × (k ≢ left) → ⊥) → MarkedUpTo marks left (k + 1) out
marked_same marks left k out h never = record {
  ascends = h.ascends;
  exact = λ v. (
    λ c. let x = (h.exact v).0 c in let lt = x.0 in (omega arith, x.1, x.2),
    λ x. elim (cases_lt v k) [
      | inl less ↦ (h.exact v).1 (less, x.1, x.2)
      | inr past ↦ let lt = x.0 in let here : v ≡ k = omega arith in absurd (never (subst (λ z. IsMarked marks z × (z ≢ left)) here (x.1, x.2)))
    ],
  );
}

pub marked_more : (marks : List Bool) (left k : ℕ) (out : List ℕ) → MarkedUpTo marks left k out → IsMarked marks k × (k ≢ left) → MarkedUpTo marks left (k + 1) (out ++ k ∷ [])
marked_more marks left k out h is = record {
  ascends = push_ascends out k h.ascends (λ u c. ((h.exact u).0 c).0);
  exact = λ v. (
    λ c. elim (Contains-push_cases out k v c) [
      | inl old ↦ let x = (h.exact v).0 old in let lt = x.0 in (omega arith, x.1, x.2)
      | inr e ↦ let moved : IsMarked marks v × (v ≢ left) = subst (λ z. IsMarked marks z × (z ≢ left)) e is in (omega arith, moved.0, moved.1)
    ],
    λ x. elim (cases_lt v k) [
      | inl less ↦ Contains-append_left out (k ∷ []) v ((h.exact v).1 (less, x.1, x.2))
      | inr past ↦ let lt = x.0 in let here : k ≡ v = omega arith in subst (Contains (out ++ k ∷ [])) here (Contains-push out k)
    ],
  );
}

pub marked_all : (marks : List Bool) (left k : ℕ) (out : List ℕ) → length marks ≤ k → MarkedUpTo marks left k out → ArePositions (λ v. IsMarked marks v × (v ≢ left)) out
marked_all marks left k out le h = record {
  ascends = h.ascends;
  exact = λ v. (
    λ c. let x = (h.exact v).0 c in (x.1, x.2),
    λ x.
        let lt = marked_within marks v x.0 in
        (h.exact v).1 (omega arith, x.0, x.1),
  );
}

pub further_iff : (items : List Item) (marks : List Bool) (target : ℕ) → ((u : ℕ) → IsMarked marks u ↔ IsReached items target u) → (v : ℕ) → (IsMarked marks v × (v ≢ target)) ↔ IsFurther items target v
further_iff items marks target reached v = (λ x. ((reached v).0 x.0, x.1), λ x. ((reached v).1 x.0, x.1))
