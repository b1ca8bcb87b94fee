-- The questions of the items so far.
use Rattle.std.specs.Prelude.{◌↔◌}
use Rattle.std.proofs.Common.{◌≡◌, ◌∙◌, ap, sym, subst, refl, ℕ, ◌+◌, ◌-◌, ◌<◌, ◌≤◌, Bool, true, false, nat_lt, if◌then◌else◌, List, [], ◌++◌, map, length, length-append, arith, get_or, slice_get, Some, None, inl, inr}
use Rattle.std.specs.List.{Contains}
use Rattle.std.proofs.Math.ListN.{get_or-append}
use Rattle.std.proofs.lemmas.Bool.{cases_lt, ltb-true, ltb-false}
use Rattle.std.proofs.lemmas.List.{get_or-append_right, get_or-map, length-map}
use Rattle.std.proofs.lemmas.List.Kept.{AllPairs-from_increasing}
use Rattle.std.proofs.lemmas.Option.{slice_get_past}
use Rattle.std.proofs.lemmas.List.Elements.{Contains-get_or, Contains-append_left, Contains-append_right, Contains-append_cases}
use Rattle.cert_graph.specs.declared.places.Place.{Place}
use Rattle.cert_graph.specs.declared.places.Part.TheVariants.{Name, Key}
use Rattle.cert_graph.specs.Places.{text_at}
use Rattle.cert_judge.specs.Revoking.{Item}
use Rattle.cert_questions.specs.declared.names.Shown.{Shown}
use Rattle.cert_questions.specs.declared.question.KeyHolder.TheVariants.{Item as item_holder, Anchor as anchor_holder}
use Rattle.cert_questions.specs.declared.question.Question.{Question}
use Rattle.cert_questions.specs.Shown.{at_item, issuer_of, issuer_at}
use Rattle.cert_questions.specs.Questions.{Holds, HoldsFirst, IsQuestion, place_of, IsHolder, ComesBefore, AreQuestions}
use Rattle.cert_questions.specs.Firsts.{IsFirstUnder, AreFirstsUnder}
use Rattle.cert_questions.specs.Places.{AreShown, places_of, holder_at, asked_of}
use Rattle.cert_questions.proofs.Places.{kept_at, issuer_in, issuer_same, name_same, key_same, shown_both}

-- an item's issuer has a first holder at a place
abbrev pub IsAsked : List Shown → List Place → ℕ → ℕ → Type 0
IsAsked shown all v h = (name : List ℕ) × (kept_at issuer_in (slice_get shown v) ≡ Some name) × IsFirstUnder all name h

-- the questions of the first k items
pub record AskedUpTo (shown : List Shown) (all : List Place) (n k : ℕ) (qs : List Question) : Type 0 where
  pub exact : (q : Question) → Contains qs q ↔ ((v : ℕ) × (h : ℕ) × (v < k) × IsAsked shown all v h × (q ≡ asked_of n v h))
  pub ordered : (i j : ℕ) (q : Question) → i < j → j < length qs → ComesBefore n (get_or qs i q) (get_or qs j q)

not_some : {b : List ℕ} → None ≡ Some b → ⊥
not_some e = cc

one_name : {a b : List ℕ} → Some a ≡ Some b → a ≡ b
one_name e = cc

pub asked_none : (shown : List Shown) (all : List Place) (n : ℕ) → AskedUpTo shown all n 0 []
asked_none shown all n = record {
  exact = λ q. (λ h. absurd (omega (arith, h.1)), λ h. absurd (omega (arith, h.2)));
  ordered = λ i j q less lt. absurd (omega arith);
}

-- an item without an issuer
pub asked_same : (shown : List Shown) (all : List Place) (n k : ℕ) (qs : List Question) → kept_at issuer_in (slice_get shown k) ≡ None → AskedUpTo shown all n k qs → AskedUpTo shown all n (k + 1) qs
asked_same shown all n k qs none h = record {
  exact = λ q. (
    λ c. let x = (h.exact q).0 c in let lt = x.2 in (x.0, x.1, omega arith, x.3, x.4),
    λ x. elim (cases_lt x.0 k) [
      | inl less ↦ (h.exact q).1 (x.0, x.1, less, x.3, x.4)
      | inr past ↦ let lt = x.2 in let here : x.0 ≡ k = omega arith in absurd (not_some (sym none ∙ subst (λ v. kept_at issuer_in (slice_get shown v) ≡ Some x.3.0) here x.3.1))
    ],
  );
  ordered = h.ordered;
}

-- the holder at a place
at_place : (b : Bool) (n h : ℕ) → (b ≡ false → n ≤ h) → place_of n (if b then item_holder h else anchor_holder (h - n)) ≡ h
at_place true n h behind = refl
at_place false n h behind = let le = behind refl in omega arith

is_one : (b : Bool) (n h : ℕ) → (b ≡ true → h < n) → IsHolder n (if b then item_holder h else anchor_holder (h - n))
is_one true n h before = before refl
is_one false n h before = tt

pub place_is : (n h : ℕ) → place_of n (holder_at n h) ≡ h
place_is n h = at_place (nat_lt h n) n h (λ e. ltb-false h n e)

pub is_holder : (n h : ℕ) → IsHolder n (holder_at n h)
is_holder n h = is_one (nat_lt h n) n h (λ e. ltb-true h n e)

-- the questions of one item
one_asked : (n k : ℕ) (row : List ℕ) (q : Question) → Contains (map (asked_of n k) row) q → (h : ℕ) × Contains row h × (q ≡ asked_of n k h)
one_asked n k row q c =
    let lt : c.0 < length row = subst (λ m. c.0 < m) (length-map row (asked_of n k)) c.1 in
    let h = get_or row c.0 0 in
    (h, Contains-get_or row c.0 0 lt, sym c.2 ∙ get_or-map (asked_of n k) row c.0 0 q lt)

asked_one : (n k : ℕ) (row : List ℕ) (h : ℕ) (q : Question) → Contains row h → q ≡ asked_of n k h → Contains (map (asked_of n k) row) q
asked_one n k row h q c is = (
  c.0,
  subst (λ m. c.0 < m) (sym (length-map row (asked_of n k))) c.1,
  get_or-map (asked_of n k) row c.0 h q c.1 ∙ ap (asked_of n k) c.2 ∙ sym is,
)

comes_before : (n : ℕ) (p q p' q' : Question) → p ≡ p' → q ≡ q' → ComesBefore n p' q' → ComesBefore n p q
comes_before n p q p' q' e f h = subst (λ x. ComesBefore n x q) (sym e) (subst (ComesBefore n p') (sym f) h)

pub asked_more : (shown : List Shown) (all : List Place) (n k : ℕ) (qs : List Question) (name row : List ℕ) → kept_at issuer_in (slice_get shown k) ≡ Some name → AreFirstsUnder all name row
    → AskedUpTo shown all n k qs → AskedUpTo shown all n (k + 1) (qs ++ map (asked_of n k) row)
asked_more shown all n k qs name row issuer firsts h =
    let f = asked_of n k in
    let new = map f row in
    let long = length-append qs new in
    let size = length-map row f in
    record {
      exact = λ q. (
        λ c. elim (Contains-append_cases qs new q c) [
          | inl old ↦ let x = (h.exact q).0 old in let lt = x.2 in (x.0, x.1, omega arith, x.3, x.4)
          | inr added ↦ let x = one_asked n k row q added in (k, x.0, omega arith, (name, issuer, (firsts.exact x.0).0 x.1), x.2)
        ],
        λ x. elim (cases_lt x.0 k) [
          | inl less ↦ Contains-append_left qs new q ((h.exact q).1 (x.0, x.1, less, x.3, x.4))
          | inr past ↦
              let lt = x.2 in
              let here : x.0 ≡ k = omega arith in
              let same_name : x.3.0 ≡ name = one_name (sym (subst (λ v. kept_at issuer_in (slice_get shown v) ≡ Some x.3.0) here x.3.1) ∙ issuer) in
              Contains-append_right qs new q (asked_one n k row x.1 q ((firsts.exact x.1).1 (subst (λ z. IsFirstUnder all z x.1) same_name x.3.2)) (x.4 ∙ ap (λ v. asked_of n v x.1) here))
        ],
      );
      ordered = λ i j q less lt. elim (cases_lt j (length qs)) [
        | inl both ↦
            let first : i < length qs = omega arith in
            comes_before n _ _ _ _ (get_or-append qs new q i first) (get_or-append qs new q j both) (h.ordered i j q less both)
        | inr late ↦
            let there : get_or (qs ++ new) j q ≡ get_or new (j - length qs) q = get_or-append_right qs new (length qs) j q refl late in
            let within : j - length qs < length row = omega arith in
            let second = get_or-map f row (j - length qs) 0 q within in
            elim (cases_lt i (length qs)) [
              | inl early ↦
                  let before = get_or-append qs new q i early in
                  let x = (h.exact (get_or qs i q)).0 (Contains-get_or qs i q early) in
                  let lower : (get_or qs i q).item < k = subst (λ (z : ℕ). z < k) (sym (ap (λ (y : Question). y.item) x.4)) x.2 in
                  comes_before n _ _ _ _ before (there ∙ second) (inl lower)
              | inr later ↦
                  let here : get_or (qs ++ new) i q ≡ get_or new (i - length qs) q = get_or-append_right qs new (length qs) i q refl later in
                  let below : i - length qs < length row = omega arith in
                  let first = get_or-map f row (i - length qs) 0 q below in
                  let up = AllPairs-from_increasing row firsts.ascends (i - length qs) (j - length qs) 0 (omega arith) within in
                  let one = place_is n (get_or row (i - length qs) 0) in
                  let two = place_is n (get_or row (j - length qs) 0) in
                  let higher : place_of n (holder_at n (get_or row (i - length qs) 0)) < place_of n (holder_at n (get_or row (j - length qs) 0)) = omega arith in
                  comes_before n _ _ _ _ (here ∙ first) (there ∙ second) (inr (refl, higher))
            ]
      ];
    }

-- what is asked of what is kept is asked by the definitions
holds_iff : (items : List Item) (all : List Shown) → AreShown items all → (name key : List ℕ) (v : ℕ) → (((text_at Name (places_of all) v ≡ Some name) × (text_at Key (places_of all) v ≡ Some key)) ↔ Holds items v name key)
holds_iff items all h name key v = (
  λ x. record { named = sym (name_same items all h v) ∙ x.0; keyed = sym (key_same items all h v) ∙ x.1 },
  λ x. (name_same items all h v ∙ x.named, key_same items all h v ∙ x.keyed),
)

first_iff : (items : List Item) (all : List Shown) → AreShown items all → (name : List ℕ) (v : ℕ) → IsFirstUnder (places_of all) name v ↔ ((key : List ℕ) × HoldsFirst items v name key)
first_iff items all h name v = (
  λ x. (
    x.0,
    record {
      holds = (holds_iff items all h name x.0 v).0 (x.1, x.2);
      first = λ u less k. let y = (holds_iff items all h name x.0 u).1 k in x.3 u less y.0 y.1;
    },
  ),
  λ x. let y = (holds_iff items all h name x.0 v).1 x.1.holds in (x.0, y.0, y.1, λ u less n k. x.1.first u less ((holds_iff items all h name x.0 u).0 (n, k))),
)

asked_iff : (items anchors : List Item) (shown more : List Shown) → AreShown items shown → AreShown (items ++ anchors) (shown ++ more) → (v h : ℕ) → IsAsked shown (places_of (shown ++ more)) v h ↔ IsQuestion items anchors v h
asked_iff items anchors shown more own both v h = (
  λ x. let f = (first_iff (items ++ anchors) (shown ++ more) both x.0 h).0 x.2 in record { name = x.0; key = f.0; issued = sym (issuer_same items shown own v) ∙ x.1; holder = f.1 },
  λ q. (q.name, issuer_same items shown own v ∙ q.issued, (first_iff (items ++ anchors) (shown ++ more) both q.name h).1 (q.key, q.holder)),
)

issued_within : (items : List Item) (v : ℕ) (name : List ℕ) → issuer_at items v ≡ Some name → v < length items
issued_within items v name e = elim (cases_lt v (length items)) [
  | inl lt ↦ lt
  | inr past ↦ absurd (not_some (sym (ap (at_item issuer_of) (slice_get_past items v past)) ∙ e))
]

-- the questions, with the number of items in other words
record AreCounted (n : ℕ) (items anchors : List Item) (qs : List Question) : Type 0 where
  sound : (q : Question) → Contains qs q → IsHolder n q.holder × IsQuestion items anchors q.item (place_of n q.holder)
  complete : (v h : ℕ) → IsQuestion items anchors v h → (q : Question) × Contains qs q × (q.item ≡ v) × (place_of n q.holder ≡ h)
  ordered : (i j : ℕ) (q : Question) → i < j → j < length qs → ComesBefore n (get_or qs i q) (get_or qs j q)

of_count : (items anchors : List Item) (qs : List Question) (n : ℕ) → n ≡ length items → AreCounted n items anchors qs → AreQuestions items anchors qs
of_count items anchors qs n e h =
    let k = subst (λ m. AreCounted m items anchors qs) e h in
    record { sound = k.sound; complete = k.complete; ordered = k.ordered }

pub are_questions : (items anchors : List Item) (shown more : List Shown) (qs : List Question) (k : ℕ) → AreShown items shown → AreShown anchors more → k ≡ length shown → AskedUpTo shown (places_of (shown ++ more)) (length shown) k qs
    → AreQuestions items anchors qs
are_questions items anchors shown more qs k own others end h =
    let both = shown_both items anchors shown more own others in
    let iff = asked_iff items anchors shown more own both in
    let count = own.count in
    of_count items anchors qs (length shown) count (record {
      sound = λ q c.
          let x = (h.exact q).0 c in
          let item : q.item ≡ x.0 = ap (λ (y : Question). y.item) x.4 in
          let place : place_of (length shown) q.holder ≡ x.1 = ap (λ (y : Question). place_of (length shown) y.holder) x.4 ∙ place_is (length shown) x.1 in (
            subst (λ (y : Question). IsHolder (length shown) y.holder) (sym x.4) (is_holder (length shown) x.1),
            subst (λ v. IsQuestion items anchors v (place_of (length shown) q.holder)) (sym item) (subst (IsQuestion items anchors x.0) (sym place) ((iff x.0 x.1).0 x.3)),
          );
      complete = λ v u a.
          let lt = issued_within items v a.name a.issued in
          let q = asked_of (length shown) v u in
          (q, (h.exact q).1 (v, u, omega arith, (iff v u).1 a, refl), refl, place_is (length shown) u);
      ordered = h.ordered;
    })
