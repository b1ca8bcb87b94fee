-- Lists in order are determined by what they contain: positions and ranges of positions. So are
-- texts of positions, of which some may be empty.
use Rattle.std.specs.Prelude.{◌↔◌, ◌⊎◌}
use Rattle.std.proofs.Common.{◌≡◌, ◌∙◌, refl, ap, sym, subst, zero, suc, pred, ℕ, ◌+◌, ◌<◌, ◌≤◌, List, [], ◌∷◌, ◌++◌, length, arith, get_or, inl, inr}
use Rattle.std.specs.List.{All, AllPairs, Contains}
use Rattle.std.specs.List.Sorted.{IsStrictlyIncreasing}
use Rattle.std.proofs.lemmas.Bool.{cases_lt}
use Rattle.std.proofs.lemmas.List.{get_or_default}
use Rattle.std.proofs.lemmas.List.Kept.{AllPairs-from_increasing}
use Rattle.cert_reasons.specs.Order.{AreAll}
use Rattle.cert_reasons.proofs.Ordered.{one_list}
use Rattle.certpath_why.specs.Reached.{ArePositions}
use Rattle.certpath_why.specs.Why.{AreTexts}

-- an element by its position, whatever the default
pub member : {X : Type 0} (xs : List X) (k : ℕ) (d : X) → k < length xs → Contains xs (get_or xs k d)
member xs k d lt = (k, lt, sym (get_or_default xs k d (get_or xs k d) lt))

-- what holds of each element of a list holds of each of another one that contains no others
pub all_among : {X : Type 0} (P : X → Type 0) (xs ys : List X) → ((x : X) → Contains ys x → Contains xs x) → All P xs → All P ys
all_among P xs ys within all k d lt = let at = within (get_or ys k d) (member ys k d lt) in subst P at.2 (all at.0 (get_or ys k d) at.1)

-- ---- positions

pub one_ascent : (P : ℕ → Type 0) (ps qs : List ℕ) → ArePositions P ps → ArePositions P qs → ps ≡ qs
one_ascent P ps qs h g = one_list (λ p. (p, 0)) P ps qs
    (record { exact = h.exact; ordered = λ i j d lt end. inl (AllPairs-from_increasing ps h.ascends i j d lt end) })
    (record { exact = g.exact; ordered = λ i j d lt end. inl (AllPairs-from_increasing qs g.ascends i j d lt end) })

-- ---- ranges

-- a list without elements
pub empty_list : {X : Type 0} (xs : List X) → ((x : X) → Contains xs x → ⊥) → xs ≡ []
empty_list [] none = refl
empty_list (x ∷ xs) none = absurd (none x (0, (let lt : 0 < length (x ∷ xs) = omega arith in lt), refl))

-- P holds exactly from the first to the last position of each element. Between two elements is a
-- position without it.
pub record Covers {X : Type 0} (first last : X → ℕ) (P : ℕ → Type 0) (rs : List X) : Type 0 where
  pub exact : (p : ℕ) → ((r : X) × Contains rs r × (first r ≤ p) × (p ≤ last r)) ↔ P p
  pub apart : AllPairs (λ r s. last r + 1 < first s) rs
  pub none_empty : (r : X) → Contains rs r → first r ≤ last r

module _ {X : Type 0} (first last : X → ℕ) where
  -- two elements are one, or are apart
  one_or_apart : (rs : List X) → AllPairs (λ r s. last r + 1 < first s) rs → (r s : X) → Contains rs r → Contains rs s → (r ≡ s) ⊎ ((last r + 1 < first s) ⊎ (last s + 1 < first r))
  one_or_apart rs apart r s a b =
      let i = a.0 in
      let j = b.0 in
      let before : i < j → last r + 1 < first s = λ lt.
      subst (λ x. last x + 1 < first s) a.2 (subst (λ y. last (get_or rs i r) + 1 < first y) (sym (get_or_default rs j s r b.1) ∙ b.2) (apart i j r lt b.1)) in
      let after : j < i → last s + 1 < first r = λ lt.
      subst (λ x. last x + 1 < first r) b.2 (subst (λ y. last (get_or rs j s) + 1 < first y) (sym (get_or_default rs i r s a.1) ∙ a.2) (apart j i s lt a.1)) in
      elim (cases_lt i j) [
        | inl lt ↦ inr (inl (before lt))
        | inr le ↦ elim (cases_lt j i) [
          | inl lt ↦ inr (inr (after lt))
          | inr ge ↦ let same : i ≡ j = omega arith in inl (sym a.2 ∙ get_or_default rs i r s a.1 ∙ subst (λ n. get_or rs i s ≡ get_or rs n s) same refl ∙ b.2)
        ]
      ]

  module _ (P : ℕ → Type 0) (rs : List X) (h : Covers first last P rs) (r : X) (at : Contains rs r) where
    inside : (p : ℕ) → first r ≤ p → p ≤ last r → P p
    inside p low high = (h.exact p).0 (r, at, low, high)

    -- P doesn't hold right after an element
    ends : P (last r + 1) → ⊥
    ends p =
        let i = (h.exact (last r + 1)).1 p in
        let s = i.0 in
        let low : first s ≤ last r + 1 = i.2 in
        let high : last r + 1 ≤ last s = i.3 in
        elim (one_or_apart rs h.apart s r i.1 at) [
          | inl e ↦ let same : last s ≡ last r = ap last e in omega arith
          | inr far ↦ let whole = h.none_empty r at in elim far [ inl lt ↦ omega arith | inr lt ↦ omega arith ]
        ]

    -- nor right before it
    begins : (p : ℕ) → p + 1 ≡ first r → P p → ⊥
    begins p next has =
        let i = (h.exact p).1 has in
        let s = i.0 in
        let low : first s ≤ p = i.2 in
        let high : p ≤ last s = i.3 in
        let whole = h.none_empty r at in
        elim (one_or_apart rs h.apart s r i.1 at) [
          | inl e ↦ let same : first s ≡ first r = ap first e in omega arith
          | inr far ↦ elim far [ inl lt ↦ omega arith | inr lt ↦ omega arith ]
        ]

  module _ (one : (r s : X) → first r ≡ first s → last r ≡ last s → r ≡ s) (P : ℕ → Type 0) where
    element_among : (rs qs : List X) → Covers first last P rs → Covers first last P qs → (r : X) → Contains rs r → Contains qs r
    element_among rs qs h g r at =
        let whole = h.none_empty r at in
        let i = (g.exact (first r)).1 (inside P rs h r at (first r) (omega arith) whole) in
        let s = i.0 in
        let low : first s ≤ first r = i.2 in
        let high : first r ≤ last s = i.3 in
        let begin : first r ≡ first s = elim (cases_lt (first s) (first r)) [
          | inl lt ↦
              let previous : ℕ = pred (first r) in
              absurd (begins P rs h r at previous (omega arith) (inside P qs g s i.1 previous (omega arith) (omega arith)))
          | inr le ↦ omega arith
        ] in
        let end : last r ≡ last s = elim (cases_lt (last r) (last s)) [
          | inl lt ↦ absurd (ends P rs h r at (inside P qs g s i.1 (last r + 1) (omega arith) (omega arith)))
          | inr le ↦ elim (cases_lt (last s) (last r)) [
            | inl lt ↦ absurd (ends P qs g s i.1 (inside P rs h r at (last s + 1) (omega arith) (omega arith)))
            | inr ge ↦ omega arith
          ]
        ] in
        subst (Contains qs) (sym (one r s begin end)) i.1

    in_order : (rs : List X) → Covers first last P rs → AreAll (λ r. (first r, 0)) (Contains rs) rs
    in_order rs h = record {
      exact = λ r. (λ at. at, λ at. at);
      ordered = λ i j d lt end.
          let below : i < length rs = omega arith in
          let whole = h.none_empty (get_or rs i d) (member rs i d below) in
          let apart = h.apart i j d lt end in
          inl (omega arith);
    }

    covers_one : (rs qs : List X) → Covers first last P rs → Covers first last P qs → rs ≡ qs
    covers_one rs qs h g =
        let there = in_order qs g in
        one_list (λ r. (first r, 0)) (Contains rs) rs qs (in_order rs h) (record { exact = λ r. (element_among qs rs g h r, element_among rs qs h g r); ordered = there.ordered })

-- the positions determine the list
pub one_covering : {X : Type 0} (rs qs : List X) (first last : X → ℕ) → ((r s : X) → first r ≡ first s → last r ≡ last s → r ≡ s) → (P : ℕ → Type 0) → Covers first last P rs → Covers first last P qs → rs ≡ qs
one_covering rs qs first last one P = covers_one first last one P rs qs

-- ---- texts

pub one_text_of_each : {X : Type 0} (IsText : X → List ℕ → Type 0) → ((x : X) (t u : List ℕ) → IsText x t → IsText x u → t ≡ u) → (xs : List X) (text other : List ℕ) → AreTexts IsText xs text → AreTexts IsText xs other → text ≡ other
one_text_of_each IsText one [] text other h g = h ∙ sym g
one_text_of_each IsText one (x ∷ xs) text other h g =
    let first = one x h.0 g.0 h.2 g.2 in
    let rest = one_text_of_each IsText one xs h.1 g.1 h.3 g.3 in
    h.4 ∙ ap (λ t. t ++ h.1) first ∙ ap (λ t. g.0 ++ t) rest ∙ sym g.4

-- positions that only the first of two lists contains have an empty text

abbrev IsEmptyBeyond : (ℕ → List ℕ → Type 0) → List ℕ → List ℕ → Type 0
IsEmptyBeyond IsText ps qs = (p : ℕ) (t : List ℕ) → Contains ps p → (Contains qs p → ⊥) → IsText p t → t ≡ []

-- members of a list with one element more at its front

first_in : (x : ℕ) (xs : List ℕ) → Contains (x ∷ xs) x
first_in x xs = (0, (let lt : 0 < length (x ∷ xs) = omega arith in lt), refl)

later : (x : ℕ) (xs : List ℕ) (p : ℕ) → Contains xs p → Contains (x ∷ xs) p
later x xs p h = let lt = h.1 in (suc h.0, (let next : suc h.0 < length (x ∷ xs) = omega arith in next), h.2)

parted : (x : ℕ) (xs : List ℕ) (p : ℕ) → Contains (x ∷ xs) p → (x ≡ p) ⊎ Contains xs p
parted x xs p (zero, lt, is) = inl is
parted x xs p (suc k, lt, is) = inr (k, (let less : k < length xs = omega (arith, lt) in less), is)

abbrev Ascends : List ℕ → Type 0
Ascends ps = AllPairs (λ (p q : ℕ). p < q) ps

above_first : (x : ℕ) (xs : List ℕ) → Ascends (x ∷ xs) → (p : ℕ) → Contains xs p → x < p
above_first x xs h p at =
    let lt = at.1 in
    let begins : 0 < suc at.0 = omega arith in
    let ends : suc at.0 < length (x ∷ xs) = omega arith in
    subst (λ (z : ℕ). x < z) at.2 (h 0 (suc at.0) p begins ends)

rest_ascends : (x : ℕ) (xs : List ℕ) → Ascends (x ∷ xs) → Ascends xs
rest_ascends x xs h i j d lt end = h (suc i) (suc j) d (omega arith) (omega arith)

-- a position before all of a list isn't in it
not_before : (y : ℕ) (ys : List ℕ) → Ascends (y ∷ ys) → (x : ℕ) → x < y → Contains (y ∷ ys) x → ⊥
not_before y ys h x lt at = elim (parted y ys x at) [ inl e ↦ omega arith | inr there ↦ let more = above_first y ys h x there in omega arith ]

module _ (IsText : ℕ → List ℕ → Type 0) (one : (p : ℕ) (t u : List ℕ) → IsText p t → IsText p u → t ≡ u) where
  none_of : (ps : List ℕ) (text : List ℕ) → ((p : ℕ) (t : List ℕ) → Contains ps p → IsText p t → t ≡ []) → AreTexts IsText ps text → text ≡ []
  none_of [] text empty h = h
  none_of (x ∷ xs) text empty h =
      let first = empty x h.0 (first_in x xs) h.2 in
      let rest = none_of xs h.1 (λ p t at. empty p t (later x xs p at)) h.3 in
      h.4 ∙ ap (λ t. t ++ h.1) first ∙ rest

  -- the first of the one list comes before all of the other
  skipped : (x : ℕ) (xs ys : List ℕ) → (Contains ys x → ⊥) → IsEmptyBeyond IsText (x ∷ xs) ys → (text : List ℕ) (h : AreTexts IsText (x ∷ xs) text) → text ≡ h.1
  skipped x xs ys absent empty text h = h.4 ∙ ap (λ t. t ++ h.1) (empty x h.0 (first_in x xs) absent h.2)

  merged : (n : ℕ) (ps qs : List ℕ) → length ps + length qs ≤ n → Ascends ps → Ascends qs → IsEmptyBeyond IsText ps qs → IsEmptyBeyond IsText qs ps → (text other : List ℕ) → AreTexts IsText ps text → AreTexts IsText qs other → text ≡ other
  merged n [] qs le up down a b text other h g = h ∙ sym (none_of qs other (λ p t at. b p t at (λ there. let lt = there.1 in omega arith)) g)
  merged n (x ∷ xs) [] le up down a b text other h g = none_of (x ∷ xs) text (λ p t at. a p t at (λ there. let lt = there.1 in omega arith)) h ∙ sym g
  merged zero (x ∷ xs) (y ∷ ys) le up down a b text other h g = absurd (omega arith)
  merged (suc n) (x ∷ xs) (y ∷ ys) le up down a b text other h g =
      elim (cases_lt x y) [
        | inl lt ↦
            skipped x xs (y ∷ ys) (not_before y ys down x lt) a text h
            ∙ merged n xs (y ∷ ys) (omega arith) (rest_ascends x xs up) down
            (λ p t at. a p t (later x xs p at))
            (λ p t at none. b p t at (λ there. elim (parted x xs p there) [ inl e ↦ not_before y ys down x lt (subst (Contains (y ∷ ys)) (sym e) at) | inr more ↦ none more ]))
            h.1 other h.3 g
        | inr ge ↦ elim (cases_lt y x) [
          | inl lt ↦
              merged n (x ∷ xs) ys (omega arith) up (rest_ascends y ys down)
              (λ p t at none. a p t at (λ there. elim (parted y ys p there) [ inl e ↦ not_before x xs up y lt (subst (Contains (x ∷ xs)) (sym e) at) | inr more ↦ none more ]))
              (λ p t at. b p t (later y ys p at))
              text g.1 h g.3
              ∙ sym (skipped y ys (x ∷ xs) (not_before x xs up y lt) b other g)
          | inr le2 ↦
              let same : x ≡ y = omega arith in
              let first : h.0 ≡ g.0 = one y h.0 g.0 (subst (λ z. IsText z h.0) same h.2) g.2 in
              let rest : h.1 ≡ g.1 = merged n xs ys (omega arith) (rest_ascends x xs up) (rest_ascends y ys down)
              (λ p t at none. a p t (later x xs p at) (λ there. elim (parted y ys p there) [ inl e ↦ let more = above_first x xs up p at in omega arith | inr more ↦ none more ]))
              (λ p t at none. b p t (later y ys p at) (λ there. elim (parted x xs p there) [ inl e ↦ let more = above_first y ys down p at in omega arith | inr more ↦ none more ]))
              h.1 g.1 h.3 g.3 in
              h.4 ∙ ap (λ t. t ++ h.1) first ∙ ap (λ t. g.0 ++ t) rest ∙ sym g.4
        ]
      ]

  -- texts of two ascending lists are equal, if each position that only one of them contains has an
  -- empty text
  pub one_merged : (ps qs : List ℕ) → IsStrictlyIncreasing ps → IsStrictlyIncreasing qs → IsEmptyBeyond IsText ps qs → IsEmptyBeyond IsText qs ps → (text other : List ℕ) → AreTexts IsText ps text → AreTexts IsText qs other → text ≡ other
  one_merged ps qs up down = merged (length ps + length qs) ps qs (omega arith) (AllPairs-from_increasing ps up) (AllPairs-from_increasing qs down)
