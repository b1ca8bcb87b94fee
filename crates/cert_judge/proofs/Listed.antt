-- Which of some lists has a place, as lists are put together.
use Rattle.std.specs.Prelude.{◌↔◌, ◌⊎◌}
use Rattle.std.proofs.Common.{◌≡◌, ◌∙◌, ap, sym, subst, refl, ℕ, ◌<◌, ◌≤◌, List, [], ◌∷◌, ◌++◌, length, map, length-append, arith, get_or, set, inl, inr, Vec, Global}
use Rattle.std.specs.List.{Contains}
use Rattle.std.proofs.Math.ListN.{get_or-append}
use Rattle.std.proofs.Math.Seq.{get_or-append_seam}
use Rattle.std.proofs.lemmas.Bool.{cases_lt, cases_eq}
use Rattle.std.proofs.lemmas.List.{get_or_default, get_or-map, length-map, length-set, get_or-set_same, get_or-set_other, map-append}
use Rattle.std.proofs.lemmas.List.Elements.{Contains-append_left, Contains-append_right, Contains-append_cases, Contains-push, Contains-push_cases}
use Rattle.cert_judge.specs.Copies.{IsIn}
use Rattle.cert_judge.proofs.Before.{SomeBefore, before_all}

abbrev pub lists_of : List (Vec ℕ Global) → List (List ℕ)
lists_of vectors = map (λ l. l.items) vectors

-- the list of a number
pub list_at : (vectors : List (Vec ℕ Global)) (k : ℕ) (l : Vec ℕ Global) (d : List ℕ) → k < length vectors → l ≡ get_or vectors k l → get_or (lists_of vectors) k d ≡ l.items
list_at vectors k l d lt at = get_or-map (λ (x : Vec ℕ Global). x.items) vectors k l d lt ∙ ap (λ (x : Vec ℕ Global). x.items) (sym at)

pub in_list : (vectors : List (Vec ℕ Global)) (k : ℕ) (l : Vec ℕ Global) → k < length vectors → l ≡ get_or vectors k l → (v : ℕ) → IsIn (lists_of vectors) k v ↔ Contains l.items v
in_list vectors k l lt at v = (
  λ h. subst (λ z. Contains z v) (list_at vectors k l [] lt at) (h.1 []),
  λ c. (subst (λ m. k < m) (sym (length-map vectors (λ (x : Vec ℕ Global). x.items))) lt, λ d. subst (λ z. Contains z v) (sym (list_at vectors k l d lt at)) c),
)

pub in_no_list : (vectors : List (Vec ℕ Global)) (k v : ℕ) → length vectors ≤ k → IsIn (lists_of vectors) k v → ⊥
in_no_list vectors k v past h = let long = length-map vectors (λ (x : Vec ℕ Global). x.items) in let lt = h.0 in absurd (omega arith)

pub in_plain : (lists : List (List ℕ)) (k v : ℕ) → k < length lists → IsIn lists k v ↔ Contains (get_or lists k []) v
in_plain lists k v lt = (λ h. h.1 [], λ c. (lt, λ d. subst (λ z. Contains z v) (get_or_default lists k [] d lt) c))

none_in : (v : ℕ) → Contains {X = ℕ} [] v → ⊥
none_in v h = let lt = h.1 in absurd (omega arith)

pub appended : (xs ys : List ℕ) (v : ℕ) → Contains (xs ++ ys) v ↔ (Contains xs v ⊎ Contains ys v)
appended xs ys v = (λ h. Contains-append_cases xs ys v h, λ h. elim h [ inl x ↦ Contains-append_left xs ys v x | inr y ↦ Contains-append_right xs ys v y ])

pub pushed : (xs : List ℕ) (y v : ℕ) → Contains (xs ++ y ∷ []) v ↔ (Contains xs v ⊎ (y ≡ v))
pushed xs y v = (λ h. Contains-push_cases xs y v h, λ h. elim h [ inl x ↦ Contains-append_left xs (y ∷ []) v x | inr e ↦ subst (Contains (xs ++ y ∷ [])) e (Contains-push xs y) ])

-- one list more at the end
pub in_pushed : (lists : List (List ℕ)) (l : List ℕ) (k v : ℕ) → IsIn (lists ++ l ∷ []) k v ↔ (IsIn lists k v ⊎ ((k ≡ length lists) × Contains l v))
in_pushed lists l k v =
    let long = length-append lists (l ∷ []) in (
      λ h. let lt = h.0 in elim (cases_lt k (length lists)) [
        | inl less ↦ inl (less, λ d. subst (λ z. Contains z v) (get_or-append lists (l ∷ []) d k less) (h.1 d))
        | inr past ↦
            let same : k ≡ length lists = omega arith in
            inr (same, subst (λ z. Contains z v) (get_or-append_seam lists l [] []) (subst (λ i. Contains (get_or (lists ++ l ∷ []) i []) v) same (h.1 [])))
      ],
      λ h. elim h [
        | inl x ↦ let lt = x.0 in (omega arith, λ d. subst (λ z. Contains z v) (sym (get_or-append lists (l ∷ []) d k x.0)) (x.1 d))
        | inr x ↦ let same = x.0 in (omega arith, λ d. subst (λ i. Contains (get_or (lists ++ l ∷ []) i d) v) (sym x.0) (subst (λ z. Contains z v) (sym (get_or-append_seam lists l [] d)) x.1))
      ],
    )

-- one place more at the end of a list
pub in_set : (lists : List (List ℕ)) (n w k v : ℕ) → n < length lists → IsIn (set lists n (get_or lists n [] ++ w ∷ [])) k v ↔ (IsIn lists k v ⊎ ((k ≡ n) × (w ≡ v)))
in_set lists n w k v within =
    let l = get_or lists n [] ++ w ∷ [] in
    let long = length-set lists n l in
    elim (cases_eq k n) [
      | inl same ↦
          let here : get_or (set lists n l) k [] ≡ l = ap (λ i. get_or (set lists n l) i []) same ∙ get_or-set_same lists n l [] within in
          let old : get_or lists n [] ≡ get_or lists k [] = ap (λ i. get_or lists i []) (sym same) in
          let lt : k < length lists = omega arith in
          let there : k < length (set lists n l) = omega arith in
          let p = pushed (get_or lists n []) w v in (
            λ h. elim (p.0 (subst (λ z. Contains z v) here ((in_plain (set lists n l) k v there).0 h))) [
              | inl x ↦ inl ((in_plain lists k v lt).1 (subst (λ z. Contains z v) old x))
              | inr e ↦ inr (same, e)
            ],
            λ h. (in_plain (set lists n l) k v there).1 (subst (λ z. Contains z v) (sym here) (p.1 (elim h [
              | inl x ↦ inl (subst (λ z. Contains z v) (sym old) ((in_plain lists k v lt).0 x))
              | inr x ↦ inr x.1
            ]))),
          )
      | inr other ↦ (
        λ h. inl (let lt = h.0 in let below : k < length lists = omega arith in (below, λ d. subst (λ z. Contains z v) (get_or-set_other lists n k l d other) (h.1 d))),
        λ h. elim h [
          | inl x ↦ let lt = x.0 in let below : k < length (set lists n l) = omega arith in (below, λ d. subst (λ z. Contains z v) (sym (get_or-set_other lists n k l d other)) (x.1 d))
          | inr x ↦ absurd (other x.0)
        ],
      )
    ]

pub mapped_push : (vectors : List (Vec ℕ Global)) (x : Vec ℕ Global) → lists_of (vectors ++ x ∷ []) ≡ lists_of vectors ++ x.items ∷ []
mapped_push vectors x = map-append (λ (l : Vec ℕ Global). l.items) vectors (x ∷ [])

-- some element before a place, in other words
pub met_all : (xs : List ℕ) (k v : ℕ) → k ≡ length xs → SomeBefore (λ z. z ≡ v) xs k ↔ Contains xs v
met_all xs k v end =
    let b = before_all (λ (z : ℕ). z ≡ v) xs k end in (
      λ h. let x = b.0 h in (x.0, x.2, subst (λ z. get_or xs x.0 z ≡ z) x.4 x.3),
      λ c. b.1 (c.0, v, c.1, c.2, refl),
    )

pub some_all : (P : ℕ → Type 0) (xs : List ℕ) (k : ℕ) → k ≡ length xs → SomeBefore P xs k ↔ ((d : ℕ) × Contains xs d × P d)
some_all P xs k end =
    let b = before_all P xs k end in (
      λ h. let x = b.0 h in (x.1, (x.0, x.2, x.3), x.4),
      λ c. b.1 (c.1.0, c.0, c.1.1, c.1.2, c.2),
    )
