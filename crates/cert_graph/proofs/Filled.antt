-- How lists of positions are filled.
use Rattle.std.proofs.Common.{◌≡◌, ℕ, ◌+◌, ◌-◌, ◌<◌, ◌≤◌, List, [], ◌∷◌, ◌++◌, length, map, get_or, set, Vec, Global, arith, ap, sym, ◌∙◌, subst, refl, inl, inr, length-append}
use Rattle.std.specs.Prelude.{◌↔◌, ◌⊎◌, All, Contains}
use Rattle.std.proofs.lemmas.Bool.{cases_lt, cases_eq}
use Rattle.std.proofs.lemmas.List.{get_or-map, length-map, map-set, length-set, get_or-set_same, get_or-set_other, get_or_push, get_or_append_left}
use Rattle.std.proofs.lemmas.List.Elements.{All-nil, All-push, All-weaker, All-contains, Contains-get_or, Contains-append_left, Contains-push, Contains-push_cases}
use Rattle.cert_graph.proofs.PlacesOfNodes.{element_at}
use Rattle.cert_graph.specs.Lists.{HasLast, IsPut, IsFill, AreFilled}

-- what `put` leaves, over the vectors that hold the lists
abbrev pub Vector : Type 0
Vector = Vec ℕ Global

abbrev pub lists_of : List Vector → List (List ℕ)
lists_of vectors = map (λ l. l.items) vectors

pub put_past : (vectors : List Vector) (k v : ℕ) → length vectors ≤ k → IsPut (lists_of vectors) (lists_of vectors) k v
unfolding IsPut
put_past vectors k v past = inl (refl, λ lt. let same = length-map vectors (λ (l : Vector). l.items) in absurd (omega arith))

pub read_list : (vectors : List Vector) (k : ℕ) (l : Vector) → k < length vectors → l ≡ get_or vectors k l → get_or (lists_of vectors) k [] ≡ l.items
read_list vectors k l within is = get_or-map (λ (x : Vector). x.items) vectors k l [] within ∙ ap (λ (x : Vector). x.items) (sym is)

pub put_there : (vectors : List Vector) (k v : ℕ) (l : Vector) → k < length vectors → l ≡ get_or vectors k l → HasLast l.items v → IsPut (lists_of vectors) (lists_of vectors) k v
unfolding IsPut
put_there vectors k v l within is h = inl (refl, λ lt. subst (λ (xs : List ℕ). HasLast xs v) (sym (read_list vectors k l within is)) h)

pub put_end : (vectors : List Vector) (k v : ℕ) (l new : Vector) → k < length vectors → l ≡ get_or vectors k l → (HasLast l.items v → ⊥) → new.items ≡ l.items ++ v ∷ []
    → IsPut (lists_of vectors) (lists_of (set vectors k new)) k v
unfolding IsPut
put_end vectors k v l new within is fresh pushed =
    let same = length-map vectors (λ (x : Vector). x.items) in
    let read = read_list vectors k l within is in
    inr (
      omega arith,
      λ h. fresh (subst (λ (xs : List ℕ). HasLast xs v) read h),
      map-set (λ (x : Vector). x.items) vectors k new ∙ ap (λ (xs : List ℕ). set (lists_of vectors) k xs) (pushed ∙ ap (λ (xs : List ℕ). xs ++ v ∷ []) (sym read)),
    )

-- one list, one position more
pub fill_push : (P Q : ℕ → Type 0) (b v : ℕ) (xs : List ℕ) → b ≤ v + 1 → IsFill P b xs → (HasLast xs v → ⊥) → ((u : ℕ) → u < v + 1 → Q u ↔ (((u < b) × P u) ⊎ (u ≡ v))) → IsFill Q (v + 1) (xs ++ v ∷ [])
fill_push P Q b v xs le h fresh k = record {
  ascends = λ i lt.
      let long = length-append xs (v ∷ []) in
      elim (cases_lt (i + 1) (length xs)) [
        | inl below ↦
            let first : i < length xs = omega arith in
            let one = get_or_append_left xs (v ∷ []) 0 i first in
            let two = get_or_append_left xs (v ∷ []) 0 (i + 1) below in
            let less = h.ascends i below in
            omega arith
        | inr above ↦
            let first : i < length xs = omega arith in
            let last : length xs ≡ i + 1 = omega arith in
            let one = get_or_append_left xs (v ∷ []) 0 i first in
            let two = get_or_push xs v 0 (i + 1) last in
            let bound : get_or xs i 0 < b = h.within i 0 first in
            let other : get_or xs i 0 ≡ v → ⊥ = λ e. fresh (omega arith, ap (λ n. get_or xs n 0) (let same : length xs - 1 ≡ i = omega arith in same) ∙ e) in
            omega arith
      ];
  within = All-push (λ u. u < v + 1) xs v (All-weaker (λ u. u < b) (λ u. u < v + 1) (λ u lt. omega arith) xs h.within) (omega arith);
  exact = λ u lt. (
    λ c. elim (Contains-push_cases xs v u c) [
      | inl there ↦ let small : u < b = All-contains (λ w. w < b) xs u h.within there in (k u lt).1 (inl (small, (h.exact u small).0 there))
      | inr e ↦ (k u lt).1 (inr (sym e))
    ],
    λ q. elim ((k u lt).0 q) [
      | inl x ↦ Contains-append_left xs (v ∷ []) u ((h.exact u x.0).1 x.1)
      | inr e ↦ subst (λ w. Contains (xs ++ v ∷ []) w) (sym e) (Contains-push xs v)
    ],
  );
}

pub fill_stay : (P Q : ℕ → Type 0) (b v : ℕ) (xs : List ℕ) → b ≤ v + 1 → IsFill P b xs → HasLast xs v → ((u : ℕ) → u < v + 1 → Q u ↔ (((u < b) × P u) ⊎ (u ≡ v))) → IsFill Q (v + 1) xs
fill_stay P Q b v xs le h last k = record {
  ascends = h.ascends;
  within = All-weaker (λ u. u < b) (λ u. u < v + 1) (λ u lt. omega arith) xs h.within;
  exact = λ u lt. (
    λ c. let small : u < b = All-contains (λ w. w < b) xs u h.within c in (k u lt).1 (inl (small, (h.exact u small).0 c)),
    λ q. elim ((k u lt).0 q) [
      | inl x ↦ (h.exact u x.0).1 x.1
      | inr e ↦ subst (λ w. Contains xs w) (last.1 ∙ sym e) (Contains-get_or xs (length xs - 1) 0 (omega (arith, last.0)))
    ],
  );
}

pub fill_weaker : (P Q : ℕ → Type 0) (b c : ℕ) (xs : List ℕ) → b ≤ c → IsFill P b xs → ((u : ℕ) → u < c → Q u ↔ ((u < b) × P u)) → IsFill Q c xs
fill_weaker P Q b c xs le h k = record {
  ascends = h.ascends;
  within = All-weaker (λ u. u < b) (λ u. u < c) (λ u lt. omega arith) xs h.within;
  exact = λ u lt. (
    λ x. let small : u < b = All-contains (λ w. w < b) xs u h.within x in (k u lt).1 (small, (h.exact u small).0 x),
    λ q. let x = (k u lt).0 q in (h.exact u x.0).1 x.1,
  );
}

-- all lists
pub filled_weaker : (R S : ℕ → ℕ → Type 0) (n b c : ℕ) (lists : List (List ℕ)) → b ≤ c → AreFilled R n b lists → ((u k : ℕ) → u < c → k < n → S u k ↔ ((u < b) × R u k)) → AreFilled S n c lists
filled_weaker R S n b c lists le h k = record {
  count = h.count;
  each = λ i lt. fill_weaker (λ u. R u i) (λ u. S u i) b c (get_or lists i []) le (h.each i lt) (λ u small. k u i small lt);
}

-- at the list that is put to, and at the others
put_here : (R S : ℕ → ℕ → Type 0) (n b v j i : ℕ) → i ≡ j → i < n → ((u k : ℕ) → u < v + 1 → k < n → S u k ↔ (((u < b) × R u k) ⊎ ((u ≡ v) × (k ≡ j)))) → (u : ℕ) → u < v + 1 → S u i ↔ (((u < b) × R u i) ⊎ (u ≡ v))
put_here R S n b v j i same lt k u small = (
  λ s. elim ((k u i small lt).0 s) [ inl x ↦ inl x | inr x ↦ inr x.0 ],
  λ x. elim x [ inl y ↦ (k u i small lt).1 (inl y) | inr e ↦ (k u i small lt).1 (inr (e, same)) ],
)

put_elsewhere : (R S : ℕ → ℕ → Type 0) (n b v j i : ℕ) → (i ≡ j → ⊥) → i < n → ((u k : ℕ) → u < v + 1 → k < n → S u k ↔ (((u < b) × R u k) ⊎ ((u ≡ v) × (k ≡ j)))) → (u : ℕ) → u < v + 1 → S u i ↔ ((u < b) × R u i)
put_elsewhere R S n b v j i other lt k u small = (
  λ s. elim ((k u i small lt).0 s) [ inl x ↦ x | inr x ↦ absurd (other x.1) ],
  λ x. (k u i small lt).1 (inl x),
)

pub filled_put : (R S : ℕ → ℕ → Type 0) (n b v j : ℕ) (old new : List (List ℕ)) → b ≤ v + 1 → AreFilled R n b old → IsPut old new j v
    → ((u k : ℕ) → u < v + 1 → k < n → S u k ↔ (((u < b) × R u k) ⊎ ((u ≡ v) × (k ≡ j)))) → AreFilled S n (v + 1) new
unfolding IsPut
filled_put R S n b v j old new le h p k = elim p [
  | inl stays ↦ subst (AreFilled S n (v + 1)) (sym stays.0) (record {
    count = h.count;
    each = λ i lt. elim (cases_eq i j) [
      | inl same ↦
          let count : length old ≡ n = h.count in
          let there : j < length old = omega arith in
          fill_stay (λ u. R u i) (λ u. S u i) b v (get_or old i []) le (h.each i lt)
          (subst (λ (m : ℕ). HasLast (get_or old m []) v) (sym same) (stays.1 there)) (put_here R S n b v j i same lt k)
      | inr other ↦ fill_weaker (λ u. R u i) (λ u. S u i) b (v + 1) (get_or old i []) le (h.each i lt) (put_elsewhere R S n b v j i other lt k)
    ];
  })
  | inr moves ↦ subst (AreFilled S n (v + 1)) (sym moves.2) (record {
    count = length-set old j (get_or old j [] ++ v ∷ []) ∙ h.count;
    each = λ i lt. elim (cases_eq i j) [
      | inl same ↦
          subst (λ (m : ℕ). IsFill (λ u. S u i) (v + 1) (get_or (set old j (get_or old j [] ++ v ∷ [])) m [])) (sym same)
          (subst (IsFill (λ u. S u i) (v + 1)) (sym (get_or-set_same old j (get_or old j [] ++ v ∷ []) [] moves.0))
          (fill_push (λ u. R u i) (λ u. S u i) b v (get_or old j []) le (subst (λ (m : ℕ). IsFill (λ u. R u i) b (get_or old m [])) same (h.each i lt)) moves.1 (put_here R S n b v j i same lt k)))
      | inr other ↦
          subst (IsFill (λ u. S u i) (v + 1)) (sym (get_or-set_other old j i (get_or old j [] ++ v ∷ []) [] other))
          (fill_weaker (λ u. R u i) (λ u. S u i) b (v + 1) (get_or old i []) le (h.each i lt) (put_elsewhere R S n b v j i other lt k))
    ];
  })
]

none_at : (vectors : List Vector) (k n : ℕ) → length vectors ≡ n → k < n → All (λ l. l.items ≡ []) vectors → get_or (lists_of vectors) k [] ≡ []
none_at vectors k n count lt empty =
    let within : k < length vectors = omega arith in
    let x = element_at vectors k within in
    get_or-map (λ (l : Vector). l.items) vectors k x.0 [] within ∙ empty k x.0 within

-- empty lists hold what is below 0
pub filled_none : (R : ℕ → ℕ → Type 0) (n : ℕ) (vectors : List Vector) → length vectors ≡ n → All (λ l. l.items ≡ []) vectors → AreFilled R n 0 (lists_of vectors)
filled_none R n vectors count empty = record {
  count = length-map vectors (λ (l : Vector). l.items) ∙ count;
  each = λ k lt. subst (IsFill (λ u. R u k) 0) (sym (none_at vectors k n count lt empty)) (record {
    ascends = λ i below. absurd (omega arith);
    within = All-nil (λ u. u < 0);
    exact = λ u small. absurd (omega arith);
  });
}
