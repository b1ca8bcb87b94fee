-- Stairs, one by one.
use Rattle.std.proofs.Common.{◌≡◌, ℕ, ◌+◌, ◌-◌, ◌<◌, ◌≤◌, List, [], ◌∷◌, ◌++◌, length, take, get_or, None, arith, ap, sym, ◌∙◌, subst, refl, inl, inr, length-append}
use Rattle.std.specs.Prelude.{Contains, ◌⊎◌}
use Rattle.std.specs.List.Sorted.{IsStrictlyIncreasing}
use Rattle.std.proofs.lemmas.Bool.{cases_lt}
use Rattle.std.proofs.lemmas.List.{get_or_push, get_or_append_left, take_more}
use Rattle.std.proofs.lemmas.List.Elements.{Contains-append_left, Contains-push, Contains-push_cases}
use Rattle.std.proofs.lemmas.List.Kept.{AllPairs-from_increasing}
use Rattle.cert_graph.specs.declared.reach.Reach.{Reach}
use Rattle.cert_graph.specs.Reach.{Takes}
use Rattle.cert_graph.specs.Graph.{Graph}
use Rattle.cert_graph.specs.Adequate.{at_row, row_of}
use Rattle.cert_graph.specs.Entries.{IsAt}
use Rattle.cert_graph.specs.declared.stairs.Stair.{Stair}
use Rattle.cert_graph.specs.declared.stairs.Flight.{Flight}
use Rattle.cert_graph.specs.Least.{IsLeast, IsLeastOption, IsOpen}
use Rattle.cert_graph.specs.Stairs.{OpenIn, AreStairs, AreFlights}

-- the first stair that takes a count is at the least open member
pub first_is_least : (g : Graph) (row : List Reach) (members : List ℕ) (stairs : List Stair) (i count : ℕ) (d : Stair) → AreStairs g row members stairs → i < length stairs → Takes (get_or stairs i d).reach count
    → ((k : ℕ) → k < i → Takes (get_or stairs k d).reach count → ⊥) → IsLeast (OpenIn g row members count) (get_or stairs i d).position
first_is_least g row members stairs i count d h within takes before = (
  h.opened i count d within takes,
  λ m less o.
      let x = h.covers m count o in
      let k = x.0 in
      let inside = x.1.0 in
      let p = x.1.1 d in
      let at_most = p.0 in
      elim (cases_lt k i) [
        | inl below ↦ before k below p.1
        | inr above ↦ elim (cases_lt i k) [
          | inl later ↦ let rises = h.ascend i k d later inside in omega arith
          | inr same ↦
              let e : k ≡ i = omega arith in
              let here : (get_or stairs i d).position ≤ m = subst (λ (j : ℕ). (get_or stairs j d).position ≤ m) e at_most in
              omega arith
        ]
      ],
)

-- if the last of some first stairs doesn't take a count, none of them does
pub none_below : (g : Graph) (row : List Reach) (members : List ℕ) (stairs : List Stair) (i count : ℕ) (d : Stair) → AreStairs g row members stairs → i ≤ length stairs
    → (0 < i → Takes (get_or stairs (i - 1) d).reach count → ⊥) → (k : ℕ) → k < i → Takes (get_or stairs k d).reach count → ⊥
none_below g row members stairs i count d h within last k below t =
    let some : 0 < i = omega arith in
    elim (cases_lt k (i - 1)) [
      | inl before ↦ last some (h.rise k (i - 1) count d before (omega arith) t)
      | inr above ↦ let e : k ≡ i - 1 = omega arith in last some (subst (λ (j : ℕ). Takes (get_or stairs j d).reach count) e t)
    ]

-- if no stair takes a count, no member is open
pub none_taking : (g : Graph) (row : List Reach) (members : List ℕ) (stairs : List Stair) (i count : ℕ) (d : Stair) → AreStairs g row members stairs → length stairs ≤ i
    → ((k : ℕ) → k < i → Takes (get_or stairs k d).reach count → ⊥) → IsLeastOption (OpenIn g row members count) None
none_taking g row members stairs i count d h past before n o =
    let x = h.covers n count o in
    let inside = x.1.0 in
    before x.0 (omega arith) (x.1.1 d).1

-- the flight that is found from the end on gives the row's stairs
-- each flight begins above those before it
abbrev pub Ascend : List Flight → Type 0
Ascend flights = (i j : ℕ) (d : Flight) → i < j → j < length flights → (get_or flights i d).row < (get_or flights j d).row

pub flight_found : (g : Graph) (rows : List (List Reach)) (members : List ℕ) (flights : List Flight) (m k : ℕ) (d : Flight) → AreFlights g rows members flights → k < length rows → m < length flights → (get_or flights m d).row ≤ k
    → ((j : ℕ) → m < j → j < length flights → k < (get_or flights j d).row) → AreStairs g (row_of rows k) members (get_or flights m d).stairs.items
flight_found g rows members flights m k d h within inside starts later =
    let x = h.covers k within in
    let i = x.0 in
    let there = x.1.0 in
    let p = x.1.1 d in
    let begins = p.0 in
    elim (cases_lt i m) [
      | inl before ↦ let past = x.2 m d before inside in absurd (omega arith)
      | inr above ↦ elim (cases_lt m i) [
        | inl after ↦ let past = later i after there in absurd (omega arith)
        | inr same ↦ let e : i ≡ m = omega arith in subst (λ (j : ℕ). AreStairs g (row_of rows k) members (get_or flights j d).stairs.items) e p.1
      ]
    ]

-- Stairs over the members so far, each of which is one of them, and the furthest that one reaches.
pub record Climbed (g : Graph) (row : List Reach) (members : List ℕ) (i : ℕ) (stairs : List Stair) (best : Reach) : Type 0 where
  pub climbs : AreStairs g row (take i members) stairs
  pub seen : (k : ℕ) (d : Stair) → k < length stairs → (j : ℕ) × (j < i) × (get_or members j 0 ≡ (get_or stairs k d).position)
  pub reached : (c : ℕ) → Takes best c → (k : ℕ) × IsAt stairs k (λ s. Takes s.reach c)
  pub under : (k c : ℕ) (d : Stair) → k < length stairs → Takes (get_or stairs k d).reach c → Takes best c

-- an open one of the members up to a place, the last or before it
open_more : (g : Graph) (row : List Reach) (members : List ℕ) (i w c : ℕ) → i < length members → OpenIn g row (take (i + 1) members) c w → (OpenIn g row (take i members) c w) ⊎ ((w ≡ get_or members i 0) × IsOpen g row c w)
open_more g row members i w c within o =
    elim (Contains-push_cases (take i members) (get_or members i 0) w (subst (λ (xs : List ℕ). Contains xs w) (take_more members i 0 within) o.0)) [
      | inl front ↦ inl (front, o.1)
      | inr last ↦ inr (sym last, o.1)
    ]

open_front : (g : Graph) (row : List Reach) (members : List ℕ) (i w c : ℕ) → i < length members → OpenIn g row (take i members) c w → OpenIn g row (take (i + 1) members) c w
open_front g row members i w c within o = (subst (λ (xs : List ℕ). Contains xs w) (sym (take_more members i 0 within)) (Contains-append_left (take i members) (get_or members i 0 ∷ []) w o.0), o.1)

-- a member that is no stair of its own: it is not open, or one before it takes each count that it takes
pub climbed_past : (g : Graph) (row : List Reach) (members : List ℕ) (i : ℕ) (stairs : List Stair) (best : Reach) → IsStrictlyIncreasing members → i < length members
    → ((c : ℕ) → IsOpen g row c (get_or members i 0) → Takes best c) → Climbed g row members i stairs best → Climbed g row members (i + 1) stairs best
climbed_past g row members i stairs best up within low h = record {
  climbs = record {
    ascend = h.climbs.ascend;
    opened = λ k c d lt t. open_front g row members i (get_or stairs k d).position c within (h.climbs.opened k c d lt t);
    covers = λ w c o. elim (open_more g row members i w c within o) [
      | inl front ↦ h.climbs.covers w c front
      | inr last ↦
          let x = h.reached c (low c (subst (λ (v : ℕ). IsOpen g row c v) last.0 last.1)) in (
            x.0,
            (
              x.1.0,
              λ d.
                  let y = h.seen x.0 d x.1.0 in
                  let before = y.1 in
                  let rises = AllPairs-from_increasing members up y.0 i 0 before within in
                  let is = y.2 in
                  let here = last.0 in
                  (omega arith, x.1.1 d),
            ),
          )
    ];
    rise = h.climbs.rise;
  };
  seen = λ k d lt. let y = h.seen k d lt in let before = y.1 in (y.0, omega arith, y.2);
  reached = h.reached;
  under = h.under;
}

-- one element more
pub at_push : {X : Type 0} (xs : List X) (x d : X) (k : ℕ) → k < length (xs ++ x ∷ []) → ((k < length xs) × (get_or (xs ++ x ∷ []) k d ≡ get_or xs k d)) ⊎ ((k ≡ length xs) × (get_or (xs ++ x ∷ []) k d ≡ x))
at_push xs x d k lt =
    let l = length-append xs (x ∷ []) in
    elim (cases_lt k (length xs)) [
      | inl below ↦ inl (below, get_or_append_left xs (x ∷ []) d k below)
      | inr above ↦ let e : length xs ≡ k = omega arith in inr (sym e, get_or_push xs x d k e)
    ]

pub climbed_on : (g : Graph) (row : List Reach) (members : List ℕ) (i : ℕ) (stairs : List Stair) (s : Stair) (best : Reach) → IsStrictlyIncreasing members → i < length members
    → s.position ≡ get_or members i 0 → s.reach ≡ at_row row (get_or members i 0) → g.Fit (get_or members i 0)
    → ((c : ℕ) → Takes best c → Takes s.reach c) → Climbed g row members i stairs best → Climbed g row members (i + 1) (stairs ++ s ∷ []) s.reach
climbed_on g row members i stairs s best up within place reach fit higher h =
    let l = length-append stairs (s ∷ []) in
    let there : length stairs < length (stairs ++ s ∷ []) = omega arith in record {
      climbs = record {
        ascend = λ j k d less lt. elim (at_push stairs s d k lt) [
          | inl old ↦
              let below = old.0 in
              let first : j < length stairs = omega arith in
              let rises = h.climbs.ascend j k d less below in
              subst (λ (a : Stair). a.position < (get_or (stairs ++ s ∷ []) k d).position) (sym (get_or_append_left stairs (s ∷ []) d j first))
              (subst (λ (b : Stair). (get_or stairs j d).position < b.position) (sym old.1) rises)
          | inr new ↦
              let at = new.0 in
              let first : j < length stairs = omega arith in
              let y = h.seen j d first in
              let before = y.1 in
              let rises = AllPairs-from_increasing members up y.0 i 0 before within in
              let is = y.2 in
              let under : (get_or stairs j d).position < s.position = omega arith in
              subst (λ (a : Stair). a.position < (get_or (stairs ++ s ∷ []) k d).position) (sym (get_or_append_left stairs (s ∷ []) d j first))
              (subst (λ (b : Stair). (get_or stairs j d).position < b.position) (sym new.1) under)
        ];
        opened = λ k c d lt t. elim (at_push stairs s d k lt) [
          | inl old ↦ subst (λ (a : Stair). OpenIn g row (take (i + 1) members) c a.position) (sym old.1)
              (open_front g row members i (get_or stairs k d).position c within (h.climbs.opened k c d old.0 (subst (λ (a : Stair). Takes a.reach c) old.1 t)))
          | inr new ↦ subst (λ (a : Stair). OpenIn g row (take (i + 1) members) c a.position) (sym new.1)
              (subst (λ (v : ℕ). OpenIn g row (take (i + 1) members) c v) (sym place) (
                subst (λ (xs : List ℕ). Contains xs (get_or members i 0)) (sym (take_more members i 0 within)) (Contains-push (take i members) (get_or members i 0)),
                (fit, subst (λ (r : Reach). Takes r c) reach (subst (λ (a : Stair). Takes a.reach c) new.1 t)),
              ))
        ];
        covers = λ w c o. elim (open_more g row members i w c within o) [
          | inl front ↦
              let x = h.climbs.covers w c front in
              let inside = x.1.0 in
              (x.0, (omega arith, λ d. subst (λ (a : Stair). (a.position ≤ w) × Takes a.reach c) (sym (get_or_append_left stairs (s ∷ []) d x.0 inside)) (x.1.1 d)))
          | inr last ↦
              let here = last.0 in
              let low : s.position ≤ w = omega arith in
              let takes : Takes s.reach c = subst (λ (r : Reach). Takes r c) (sym reach) (subst (λ (v : ℕ). Takes (at_row row v) c) last.0 last.1.1) in
              (length stairs, (there, λ d. subst (λ (a : Stair). (a.position ≤ w) × Takes a.reach c) (sym (get_or_push stairs s d (length stairs) refl)) (low, takes)))
        ];
        rise = λ j k c d less lt t. elim (at_push stairs s d k lt) [
          | inl old ↦
              let below = old.0 in
              let first : j < length stairs = omega arith in
              subst (λ (b : Stair). Takes b.reach c) (sym old.1)
              (h.climbs.rise j k c d less below (subst (λ (a : Stair). Takes a.reach c) (get_or_append_left stairs (s ∷ []) d j first) t))
          | inr new ↦
              let at = new.0 in
              let first : j < length stairs = omega arith in
              subst (λ (b : Stair). Takes b.reach c) (sym new.1)
              (higher c (h.under j c d first (subst (λ (a : Stair). Takes a.reach c) (get_or_append_left stairs (s ∷ []) d j first) t)))
        ];
      };
      seen = λ k d lt. elim (at_push stairs s d k lt) [
        | inl old ↦ let y = h.seen k d old.0 in let before = y.1 in (y.0, omega arith, y.2 ∙ ap (λ (a : Stair). a.position) (sym old.1))
        | inr new ↦ (i, omega arith, sym place ∙ ap (λ (a : Stair). a.position) (sym new.1))
      ];
      reached = λ c t. (length stairs, (there, λ d. subst (λ (a : Stair). Takes a.reach c) (sym (get_or_push stairs s d (length stairs) refl)) t));
      under = λ k c d lt t. elim (at_push stairs s d k lt) [
        | inl old ↦ higher c (h.under k c d old.0 (subst (λ (a : Stair). Takes a.reach c) old.1 t))
        | inr new ↦ subst (λ (a : Stair). Takes a.reach c) new.1 t
      ];
    }
