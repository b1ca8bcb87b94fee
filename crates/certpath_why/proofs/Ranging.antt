-- Ranges of positions, from the first on.
use Rattle.std.specs.Prelude.{◌↔◌, ◌⊎◌}
use Rattle.std.proofs.Common.{◌≡◌, ◌∙◌, refl, sym, subst, ℕ, ◌+◌, ◌<◌, ◌≤◌, List, [], ◌∷◌, ◌++◌, length, length-append, arith, get_or, take, inl, inr}
use Rattle.std.specs.List.{Contains, AllPairs}
use Rattle.std.proofs.Math.ListN.{get_or-append}
use Rattle.std.proofs.Math.Seq.{get_or-append_seam}
use Rattle.std.proofs.lemmas.Bool.{cases_lt}
use Rattle.std.proofs.lemmas.List.{get_or_default, take_more, take_all, get_or-take, length-take-le}
use Rattle.std.proofs.lemmas.List.Kept.{AllPairs-from_increasing}
use Rattle.std.specs.List.Sorted.{IsStrictlyIncreasing}
use Rattle.certpath_why.specs.declared.ranges.Range.{Range}
use Rattle.certpath_why.specs.Ranges.{AreRanges}

-- what a list with one element more contains
pub contains_more : {R : Type 0} (rs : List R) (x r : R) → Contains (rs ++ x ∷ []) r ↔ (Contains rs r ⊎ (x ≡ r))
contains_more rs x r =
    let long = length-append rs (x ∷ []) in (
      λ h. let lt = h.1 in elim (cases_lt h.0 (length rs)) [
        | inl less ↦ inl (h.0, less, sym (get_or-append rs (x ∷ []) r h.0 less) ∙ h.2)
        | inr past ↦
            let same : length rs ≡ h.0 = omega arith in
            inr (sym (subst (λ i. get_or (rs ++ x ∷ []) i r ≡ x) same (get_or-append_seam rs x [] r)) ∙ h.2)
      ],
      λ h. elim h [
        | inl y ↦ let less = y.1 in (y.0, omega arith, get_or-append rs (x ∷ []) r y.0 less ∙ y.2)
        | inr e ↦ (length rs, omega arith, get_or-append_seam rs x [] r ∙ e)
      ],
    )

default_same : {R : Type 0} (rs : List R) (i : ℕ) (d : R) → i < length rs → get_or rs i (get_or rs i d) ≡ get_or rs i d
default_same rs i d lt = sym (get_or_default rs i d (get_or rs i d) lt)

-- each comes before one more
pairs_more : {R : Type 0} (Q : R → R → Type 0) (rs : List R) (x : R) → AllPairs Q rs → ((r : R) → Contains rs r → Q r x) → AllPairs Q (rs ++ x ∷ [])
pairs_more Q rs x h before i j d lt end =
    let long = length-append rs (x ∷ []) in
    let below : i < length rs = omega arith in
    let first = get_or-append rs (x ∷ []) d i below in
    elim (cases_lt j (length rs)) [
      | inl less ↦ subst (λ z. Q (get_or (rs ++ x ∷ []) i d) z) (sym (get_or-append rs (x ∷ []) d j less)) (subst (λ z. Q z (get_or rs j d)) (sym first) (h i j d lt less))
      | inr past ↦
          let same : length rs ≡ j = omega arith in
          let last : get_or (rs ++ x ∷ []) j d ≡ x = subst (λ k. get_or (rs ++ x ∷ []) k d ≡ x) same (get_or-append_seam rs x [] d) in
          subst (λ z. Q (get_or (rs ++ x ∷ []) i d) z) (sym last) (subst (λ z. Q z x) (sym first) (before (get_or rs i d) (i, below, default_same rs i d below)))
    ]

-- without the last one
pairs_front : {R : Type 0} (Q : R → R → Type 0) (rs : List R) (x : R) → AllPairs Q (rs ++ x ∷ []) → AllPairs Q rs
pairs_front Q rs x h i j d lt end =
    let long = length-append rs (x ∷ []) in
    let below : i < length rs = omega arith in
    subst (λ z. Q z (get_or rs j d)) (get_or-append rs (x ∷ []) d i below) (subst (λ z. Q (get_or (rs ++ x ∷ []) i d) z) (get_or-append rs (x ∷ []) d j end) (h i j d lt (omega arith)))

-- each with the last one
pairs_last : {R : Type 0} (Q : R → R → Type 0) (rs : List R) (x : R) → AllPairs Q (rs ++ x ∷ []) → (r : R) → Contains rs r → Q r x
pairs_last Q rs x h r at =
    let long = length-append rs (x ∷ []) in
    let lt = at.1 in
    let one = h at.0 (length rs) r lt (omega arith) in
    subst (λ z. Q r z) (get_or-append_seam rs x [] r) (subst (λ z. Q z (get_or (rs ++ x ∷ []) (length rs) r)) (get_or-append rs (x ∷ []) r at.0 lt ∙ at.2) one)

abbrev from : ℕ → ℕ → Range
from a b = record { first = a; last = b }

pub none : AreRanges (Contains []) []
none = record {
  exact = λ p. (λ h. let at = h.1 in let lt = at.1 in absurd (omega arith), λ h. let lt = h.1 in absurd (omega arith));
  apart = λ i j d lt end. absurd (omega arith);
  none_empty = λ r at. let lt = at.1 in absurd (omega arith);
}

-- a position that begins a range
pub begun : (ps : List ℕ) (place : ℕ) (rs : List Range) → AreRanges (Contains ps) rs → ((r : Range) → Contains rs r → r.last + 1 < place) → AreRanges (Contains (ps ++ place ∷ [])) (rs ++ from place place ∷ [])
begun ps place rs h gap = record {
  exact = λ p. (
    λ i. elim ((contains_more rs (from place place) i.0).0 i.1) [
      | inl at ↦ (contains_more ps place p).1 (inl ((h.exact p).0 (i.0, at, i.2, i.3)))
      | inr e ↦
          let low : place ≤ p = subst (λ (r : Range). r.first ≤ p) (sym e) i.2 in
          let high : p ≤ place = subst (λ (r : Range). p ≤ r.last) (sym e) i.3 in
          (contains_more ps place p).1 (inr (omega arith))
    ],
    λ c. elim ((contains_more ps place p).0 c) [
      | inl at ↦ let i = (h.exact p).1 at in (i.0, (contains_more rs (from place place) i.0).1 (inl i.1), i.2, i.3)
      | inr e ↦ (from place place, (contains_more rs (from place place) (from place place)).1 (inr refl), omega arith, omega arith)
    ],
  );
  apart = pairs_more (λ (r s : Range). r.last + 1 < s.first) rs (from place place) h.apart gap;
  none_empty = λ r at. elim ((contains_more rs (from place place) r).0 at) [
    | inl there ↦ h.none_empty r there
    | inr e ↦ subst (λ (r : Range). r.first ≤ r.last) e (omega arith)
  ];
}

-- one that goes on with the last range
pub gone_on : (ps : List ℕ) (place : ℕ) (front : List Range) (x : Range) → AreRanges (Contains ps) (front ++ x ∷ []) → place ≡ x.last + 1 → AreRanges (Contains (ps ++ place ∷ [])) (front ++ from x.first place ∷ [])
gone_on ps place front x h is =
    let y = from x.first place in
    let whole = h.none_empty x ((contains_more front x x).1 (inr refl)) in
    record {
      exact = λ p. (
        λ i. elim ((contains_more front y i.0).0 i.1) [
          | inl at ↦ (contains_more ps place p).1 (inl ((h.exact p).0 (i.0, (contains_more front x i.0).1 (inl at), i.2, i.3)))
          | inr e ↦
              let low : x.first ≤ p = subst (λ (r : Range). r.first ≤ p) (sym e) i.2 in
              let high : p ≤ place = subst (λ (r : Range). p ≤ r.last) (sym e) i.3 in
              elim (cases_lt p place) [
                | inl less ↦ (contains_more ps place p).1 (inl ((h.exact p).0 (x, (contains_more front x x).1 (inr refl), low, omega arith)))
                | inr past ↦ (contains_more ps place p).1 (inr (omega arith))
              ]
        ],
        λ c. elim ((contains_more ps place p).0 c) [
          | inl at ↦
              let i = (h.exact p).1 at in
              elim ((contains_more front x i.0).0 i.1) [
                | inl there ↦ (i.0, (contains_more front y i.0).1 (inl there), i.2, i.3)
                | inr e ↦
                    let low : x.first ≤ p = subst (λ (r : Range). r.first ≤ p) (sym e) i.2 in
                    let high : p ≤ x.last = subst (λ (r : Range). p ≤ r.last) (sym e) i.3 in
                    (y, (contains_more front y y).1 (inr refl), low, omega arith)
              ]
          | inr e ↦ (y, (contains_more front y y).1 (inr refl), omega arith, omega arith)
        ],
      );
      apart = pairs_more (λ (r s : Range). r.last + 1 < s.first) front y (pairs_front (λ (r s : Range). r.last + 1 < s.first) front x h.apart) (pairs_last (λ (r s : Range). r.last + 1 < s.first) front x h.apart);
      none_empty = λ r at. elim ((contains_more front y r).0 at) [
        | inl there ↦ h.none_empty r ((contains_more front x r).1 (inl there))
        | inr e ↦ subst (λ (r : Range). r.first ≤ r.last) e (omega arith)
      ];
    }

-- all ranges end two below a position that comes after all and doesn't go on with the last
pub gap_after : (ps : List ℕ) (place : ℕ) (front : List Range) (x : Range) → AreRanges (Contains ps) (front ++ x ∷ []) → ((p : ℕ) → Contains ps p → p < place) → (place ≡ x.last + 1 → ⊥)
    → (r : Range) → Contains (front ++ x ∷ []) r → r.last + 1 < place
gap_after ps place front x h below other r at =
    let inside : Contains (front ++ x ∷ []) x = (contains_more front x x).1 (inr refl) in
    let whole = h.none_empty x inside in
    let lt : x.last < place = below x.last ((h.exact x.last).0 (x, inside, whole, omega arith)) in
    let end : x.last + 1 < place = elim (cases_lt (x.last + 1) place) [ inl less ↦ less | inr past ↦ absurd (other (omega arith)) ] in
    elim ((contains_more front x r).0 at) [
      | inl there ↦ let apart = pairs_last (λ (r s : Range). r.last + 1 < s.first) front x h.apart r there in omega arith
      | inr e ↦ subst (λ (r : Range). r.last + 1 < place) e end
    ]

-- ---- all positions

pub sorted_below : (ps : List ℕ) (k : ℕ) → IsStrictlyIncreasing ps → k < length ps → (p : ℕ) → Contains (take k ps) p → p < get_or ps k 0
sorted_below ps k sorted lt p at =
    let long = length-take-le k ps (omega arith) in
    let there = at.1 in
    let first : at.0 < k = omega arith in
    let low : get_or ps at.0 p ≡ p = sym (get_or-take k ps at.0 p first) ∙ at.2 in
    let less : get_or ps at.0 p < get_or ps k p = AllPairs-from_increasing ps sorted at.0 k p first lt in
    let high : get_or ps k p ≡ get_or ps k 0 = get_or_default ps k p 0 lt in
    omega arith

pub one_more : (ps : List ℕ) (k : ℕ) (rs new : List Range) → IsStrictlyIncreasing ps → k < length ps → AreRanges (Contains (take k ps)) rs
    → ((qs : List ℕ) → ((p : ℕ) → Contains qs p → p < get_or ps k 0) → AreRanges (Contains qs) rs → AreRanges (Contains (qs ++ get_or ps k 0 ∷ [])) new) → AreRanges (Contains (take (k + 1) ps)) new
one_more ps k rs new sorted lt h add = subst (λ l. AreRanges (Contains l) new) (sym (take_more ps k 0 lt)) (add (take k ps) (sorted_below ps k sorted lt) h)

pub all_of : (ps : List ℕ) (k : ℕ) (rs : List Range) → length ps ≤ k → AreRanges (Contains (take k ps)) rs → AreRanges (Contains ps) rs
all_of ps k rs le h = subst (λ l. AreRanges (Contains l) rs) (take_all k ps le) h
