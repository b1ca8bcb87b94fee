-- Links by rows, from the side of keys and from the side of copies.
use Rattle.std.specs.Prelude.{◌↔◌, ◌⊎◌}
use Rattle.std.proofs.Common.{◌≡◌, ◌∙◌, ap, sym, subst, refl, ℕ, ◌+◌, ◌<◌, List, [], ◌∷◌, ◌++◌, length, length-append, arith, get_or, inl, inr}
use Rattle.std.specs.List.{All, Contains}
use Rattle.std.proofs.lemmas.Bool.{cases_lt}
use Rattle.std.proofs.lemmas.List.Elements.{All-contains, Contains-get_or}
use Rattle.cert_graph.specs.declared.nodes.Group.{Group}
use Rattle.cert_graph.specs.declared.places.Place.{Place}
use Rattle.cert_graph.specs.Links.{Adds, IsPlaceLink, IsPlaceAnchor}
use Rattle.cert_graph.specs.Lists.{AreFilled}
use Rattle.cert_graph.proofs.Adding.{adds_none, adds_then, adds_as}
use Rattle.cert_judge.specs.Copies.{IsIn, IsSided, IsLinkBy, IsAnchorBy}
use Rattle.cert_judge.proofs.Before.{SomeBefore, none_before, before_more}
use Rattle.cert_judge.proofs.Listed.{in_plain, in_pushed, pushed, met_all}

none_in : (v : ℕ) → Contains {X = ℕ} [] v → ⊥
none_in v h = let lt = h.1 in absurd (omega arith)

-- the lists of the first numbers
abbrev pub Joined : List (List ℕ) → List ℕ → ℕ → List ℕ → Type 0
Joined lists numbers k all = (v : ℕ) → Contains all v ↔ SomeBefore (λ d. IsIn lists d v) numbers k

pub joined_none : (lists : List (List ℕ)) (numbers : List ℕ) → Joined lists numbers 0 []
joined_none lists numbers v = (λ h. absurd (none_in v h), λ h. absurd (none_before (λ d. IsIn lists d v) numbers h))

pub joined_more : (lists : List (List ℕ)) (numbers all new : List ℕ) (k d : ℕ) → k < length numbers → d ≡ get_or numbers k d → ((v : ℕ) → Contains new v ↔ (Contains all v ⊎ IsIn lists d v)) → Joined lists numbers k all → Joined lists numbers (k + 1) new
joined_more lists numbers all new k d lt at add h v =
    let m = before_more (λ e. IsIn lists e v) numbers k d lt at in (
      λ c. m.1 (elim ((add v).0 c) [ inl x ↦ inl ((h v).0 x) | inr x ↦ inr x ]),
      λ b. (add v).1 (elim (m.0 b) [ inl x ↦ inl ((h v).1 x) | inr x ↦ inr x ]),
    )

-- a row in two
abbrev pub InTwo : List ℕ → ℕ → List ℕ → List ℕ → Type 0
InTwo row k few many = (d : ℕ) → SomeBefore (λ z. z ≡ d) row k ↔ (Contains few d ⊎ Contains many d)

pub two_none : (row : List ℕ) → InTwo row 0 [] []
two_none row d = (λ h. absurd (none_before (λ z. z ≡ d) row h), λ h. elim h [ inl x ↦ absurd (none_in d x) | inr x ↦ absurd (none_in d x) ])

pub two_few : (row few many : List ℕ) (k n : ℕ) → k < length row → n ≡ get_or row k n → InTwo row k few many → InTwo row (k + 1) (few ++ n ∷ []) many
two_few row few many k n lt at h d =
    let m = before_more (λ z. z ≡ d) row k n lt at in
    let p = pushed few n d in (
      λ b. elim (m.0 b) [ inl x ↦ elim ((h d).0 x) [ inl y ↦ inl (p.1 (inl y)) | inr y ↦ inr y ] | inr e ↦ inl (p.1 (inr e)) ],
      λ c. m.1 (elim c [ inl x ↦ elim (p.0 x) [ inl y ↦ inl ((h d).1 (inl y)) | inr e ↦ inr e ] | inr x ↦ inl ((h d).1 (inr x)) ]),
    )

pub two_many : (row few many : List ℕ) (k n : ℕ) → k < length row → n ≡ get_or row k n → InTwo row k few many → InTwo row (k + 1) few (many ++ n ∷ [])
two_many row few many k n lt at h d =
    let m = before_more (λ z. z ≡ d) row k n lt at in
    let p = pushed many n d in (
      λ b. elim (m.0 b) [ inl x ↦ elim ((h d).0 x) [ inl y ↦ inl y | inr y ↦ inr (p.1 (inl y)) ] | inr e ↦ inr (p.1 (inr e)) ],
      λ c. m.1 (elim c [ inl x ↦ inl ((h d).1 (inl x)) | inr x ↦ elim (p.0 x) [ inl y ↦ inl ((h d).1 (inr y)) | inr e ↦ inr e ] ]),
    )

pub two_all : (row few many : List ℕ) (k : ℕ) → k ≡ length row → InTwo row k few many → (d : ℕ) → Contains row d ↔ (Contains few d ⊎ Contains many d)
two_all row few many k end h d = let m = met_all row k d end in (λ c. (h d).0 (m.1 c), λ x. m.0 ((h d).1 x))

-- the first rows, each in two
pub record EachInTwo (rows : List (List ℕ)) (k : ℕ) (few many : List (List ℕ)) : Type 0 where
  pub count_few : length few ≡ k
  pub count_many : length many ≡ k
  pub each : (i d : ℕ) → i < k → IsIn rows i d ↔ (IsIn few i d ⊎ IsIn many i d)

pub each_none : (rows : List (List ℕ)) → EachInTwo rows 0 [] []
each_none rows = record { count_few = refl; count_many = refl; each = λ i d lt. absurd (omega arith) }

pub each_more : (rows few many : List (List ℕ)) (k : ℕ) (row f m : List ℕ) → k < length rows → row ≡ get_or rows k [] → ((d : ℕ) → Contains row d ↔ (Contains f d ⊎ Contains m d)) → EachInTwo rows k few many → EachInTwo rows (k + 1) (few ++ f ∷ []) (many ++ m ∷ [])
each_more rows few many k row f m lt at two h =
    let cf = h.count_few in
    let cm = h.count_many in
    record {
      count_few = let long = length-append few (f ∷ []) in omega arith;
      count_many = let long = length-append many (m ∷ []) in omega arith;
      each = λ i d below.
          let pf = in_pushed few f i d in
          let pm = in_pushed many m i d in
          elim (cases_lt i k) [
            | inl less ↦
                let e = h.each i d less in (
                  λ x. elim (e.0 x) [ inl y ↦ inl (pf.1 (inl y)) | inr y ↦ inr (pm.1 (inl y)) ],
                  λ x. e.1 (elim x [
                    | inl y ↦ elim (pf.0 y) [ inl z ↦ inl z | inr z ↦ let same = z.0 in absurd (omega arith) ]
                    | inr y ↦ elim (pm.0 y) [ inl z ↦ inr z | inr z ↦ let same = z.0 in absurd (omega arith) ]
                  ]),
                )
            | inr past ↦
                let same : i ≡ k = omega arith in
                let sf : i ≡ length few = omega arith in
                let sm : i ≡ length many = omega arith in
                let within : i < length rows = omega arith in
                let here : get_or rows i [] ≡ row = ap (λ j. get_or rows j []) same ∙ sym at in
                let p = in_plain rows i d within in (
                  λ x. elim ((two d).0 (subst (λ z. Contains z d) here (p.0 x))) [ inl y ↦ inl (pf.1 (inr (sf, y))) | inr y ↦ inr (pm.1 (inr (sm, y))) ],
                  λ x. p.1 (subst (λ z. Contains z d) (sym here) ((two d).1 (elim x [
                    | inl y ↦ elim (pf.0 y) [ inl z ↦ let lt2 = z.0 in absurd (omega arith) | inr z ↦ inl z.1 ]
                    | inr y ↦ elim (pm.0 y) [ inl z ↦ let lt2 = z.0 in absurd (omega arith) | inr z ↦ inr z.1 ]
                  ]))),
                )
          ];
    }

pub each_all : (rows few many : List (List ℕ)) (k : ℕ) → k ≡ length rows → EachInTwo rows k few many → (i d : ℕ) → IsIn rows i d ↔ (IsIn few i d ⊎ IsIn many i d)
each_all rows few many k end h i d =
    let cf = h.count_few in
    let cm = h.count_many in (
      λ x. let lt = x.0 in (h.each i d (omega arith)).0 x,
      λ x. elim x [ inl y ↦ let lt = y.0 in (h.each i d (omega arith)).1 (inl y) | inr y ↦ let lt = y.0 in (h.each i d (omega arith)).1 (inr y) ],
    )

-- what a call adds
pub adds_step : (all : List Place) (n m : ℕ) (old mid new : List Group) (R S : ℕ → ℕ → Type 0) (linked holders : List ℕ) → Adds n old mid (IsLinkBy R all n) (IsAnchorBy R n m) → Adds n mid new (IsPlaceLink all n linked holders) (IsPlaceAnchor n m linked holders)
    → ((v p : ℕ) → (R v p ⊎ (Contains linked v × Contains holders p)) ↔ S v p) → Adds n old new (IsLinkBy S all n) (IsAnchorBy S n m)
adds_step all n m old mid new R S linked holders before more iff =
    adds_as n old new _ _ _ _ (adds_then n old mid new _ _ _ _ before more)
    (λ v w. (
      λ h. elim h [ inl x ↦ ((iff v (n + w)).0 (inl x.0), x.1, x.2) | inr x ↦ ((iff v (n + w)).0 (inr (x.0, x.1)), x.2, x.3) ],
      λ h. elim ((iff v (n + w)).1 h.0) [ inl x ↦ inl (x, h.1, h.2) | inr x ↦ inr (x.0, x.1, h.1, h.2) ],
    ))
    (λ v a. (
      λ h. elim h [ inl x ↦ ((iff v (n + n + a)).0 (inl x.0), x.1) | inr x ↦ ((iff v (n + n + a)).0 (inr (x.0, x.1)), x.2) ],
      λ h. elim ((iff v (n + n + a)).1 h.0) [ inl x ↦ inl (x, h.1) | inr x ↦ inr (x.0, x.1, h.1) ],
    ))

pub adds_same : (all : List Place) (n m : ℕ) (old new : List Group) (R S : ℕ → ℕ → Type 0) → Adds n old new (IsLinkBy R all n) (IsAnchorBy R n m) → ((v p : ℕ) → R v p ↔ S v p) → Adds n old new (IsLinkBy S all n) (IsAnchorBy S n m)
adds_same all n m old new R S h iff = adds_as n old new _ _ _ _ h
    (λ v w. (λ x. ((iff v (n + w)).0 x.0, x.1, x.2), λ x. ((iff v (n + w)).1 x.0, x.1, x.2)))
    (λ v a. (λ x. ((iff v (n + n + a)).0 x.0, x.1), λ x. ((iff v (n + n + a)).1 x.0, x.1)))

pub adds_nothing : (all : List Place) (n m : ℕ) (old : List Group) (R : ℕ → ℕ → Type 0) → ((v p : ℕ) → R v p → ⊥) → Adds n old old (IsLinkBy R all n) (IsAnchorBy R n m)
adds_nothing all n m old R none = adds_none n old _ _ (λ v w h. none v (n + w) h.0) (λ v a h. none v (n + n + a) h.0)

module _ (rows copies holders : List (List ℕ)) where
  -- of the first keys, and of the first copies
  abbrev pub ByKeys : ℕ → ℕ → ℕ → Type 0
  ByKeys b v p = (k : ℕ) × (d : ℕ) × (k < b) × IsIn rows k d × IsIn copies d v × IsIn holders k p

  abbrev pub ByCopies : ℕ → ℕ → ℕ → Type 0
  ByCopies b v p = (k : ℕ) × (d : ℕ) × (d < b) × IsIn rows k d × IsIn copies d v × IsIn holders k p

  pub no_keys : (v p : ℕ) → ByKeys 0 v p → ⊥
  no_keys v p h = let lt = h.2 in absurd (omega arith)

  pub no_copies : (v p : ℕ) → ByCopies 0 v p → ⊥
  no_copies v p h = let lt = h.2 in absurd (omega arith)

  pub keys_more : (k : ℕ) (row linked held : List ℕ) → k < length rows → k < length holders → row ≡ get_or rows k [] → held ≡ get_or holders k [] → ((v : ℕ) → Contains linked v ↔ ((d : ℕ) × Contains row d × IsIn copies d v))
      → (v p : ℕ) → (ByKeys k v p ⊎ (Contains linked v × Contains held p)) ↔ ByKeys (k + 1) v p
  keys_more k row linked held lt lt2 at at2 exact v p = (
    λ h. elim h [
      | inl x ↦ let less = x.2 in (x.0, x.1, omega arith, x.3, x.4, x.5)
      | inr x ↦
          let l = (exact v).0 x.0 in
          (k, l.0, omega arith, (in_plain rows k l.0 lt).1 (subst (λ z. Contains z l.0) at l.1), l.2, (in_plain holders k p lt2).1 (subst (λ z. Contains z p) at2 x.1))
    ],
    λ h. elim (cases_lt h.0 k) [
      | inl less ↦ inl (h.0, h.1, less, h.3, h.4, h.5)
      | inr past ↦
          let below = h.2 in
          let same : h.0 ≡ k = omega arith in
          let r = subst (λ i. IsIn rows i h.1) same h.3 in
          let o = subst (λ i. IsIn holders i p) same h.5 in
          inr ((exact v).1 (h.1, subst (λ z. Contains z h.1) (sym at) ((in_plain rows k h.1 lt).0 r), h.4), subst (λ z. Contains z p) (sym at2) ((in_plain holders k p lt2).0 o))
    ],
  )

  pub keys_all : (k : ℕ) → k ≡ length rows → (v p : ℕ) → ByKeys k v p ↔ IsSided rows copies holders v p
  keys_all k end v p = (λ h. (h.0, h.1, h.3, h.4, h.5), λ h. let lt = h.2.0 in (h.0, h.1, omega arith, h.2, h.3, h.4))

  -- the keys of a number
  pub copies_more : (turned : List (List ℕ)) (d : ℕ) (keys own held : List ℕ) → AreFilled (IsIn rows) (length copies) (length rows) turned → d < length copies → keys ≡ get_or turned d [] → own ≡ get_or copies d []
      → ((p : ℕ) → Contains held p ↔ ((k : ℕ) × Contains keys k × IsIn holders k p)) → (v p : ℕ) → (ByCopies d v p ⊎ (Contains own v × Contains held p)) ↔ ByCopies (d + 1) v p
  copies_more turned d keys own held filled lt at at2 exact v p =
      let fill = filled.each d lt in (
        λ h. elim h [
          | inl x ↦ let less = x.2 in (x.0, x.1, omega arith, x.3, x.4, x.5)
          | inr x ↦
              let l = (exact p).0 x.1 in
              let there : Contains (get_or turned d []) l.0 = subst (λ z. Contains z l.0) at l.1 in
              let small : l.0 < length rows = All-contains (λ u. u < length rows) (get_or turned d []) l.0 fill.within there in
              (l.0, d, omega arith, (fill.exact l.0 small).0 there, (in_plain copies d v lt).1 (subst (λ z. Contains z v) at2 x.0), l.2)
        ],
        λ h. elim (cases_lt h.1 d) [
          | inl less ↦ inl (h.0, h.1, less, h.3, h.4, h.5)
          | inr past ↦
              let below = h.2 in
              let same : h.1 ≡ d = omega arith in
              let r = subst (λ i. IsIn rows h.0 i) same h.3 in
              let o = subst (λ i. IsIn copies i v) same h.4 in
              inr (subst (λ z. Contains z v) (sym at2) ((in_plain copies d v lt).0 o), (exact p).1 (h.0, subst (λ z. Contains z h.0) (sym at) ((fill.exact h.0 r.0).1 r), h.5))
        ],
      )

  pub copies_all : (d : ℕ) → d ≡ length copies → (v p : ℕ) → ByCopies d v p ↔ IsSided rows copies holders v p
  copies_all d end v p = (λ h. (h.0, h.1, h.3, h.4, h.5), λ h. let lt = h.3.0 in (h.0, h.1, omega arith, h.2, h.3, h.4))

-- both sides
pub sided_both : (rows few many copies holders : List (List ℕ)) → ((k d : ℕ) → IsIn rows k d ↔ (IsIn few k d ⊎ IsIn many k d)) → (v p : ℕ) → (IsSided few copies holders v p ⊎ IsSided many copies holders v p) ↔ IsSided rows copies holders v p
sided_both rows few many copies holders whole v p = (
  λ h. elim h [ inl x ↦ (x.0, x.1, (whole x.0 x.1).1 (inl x.2), x.3, x.4) | inr x ↦ (x.0, x.1, (whole x.0 x.1).1 (inr x.2), x.3, x.4) ],
  λ h. elim ((whole h.0 h.1).0 h.2) [ inl x ↦ inl (h.0, h.1, x, h.3, h.4) | inr x ↦ inr (h.0, h.1, x, h.3, h.4) ],
)

pub adds_both : (all : List Place) (n m : ℕ) (old mid new : List Group) (R S T : ℕ → ℕ → Type 0) → Adds n old mid (IsLinkBy R all n) (IsAnchorBy R n m) → Adds n mid new (IsLinkBy S all n) (IsAnchorBy S n m) → ((v p : ℕ) → (R v p ⊎ S v p) ↔ T v p) → Adds n old new (IsLinkBy T all n) (IsAnchorBy T n m)
adds_both all n m old mid new R S T one two iff =
    adds_as n old new _ _ _ _ (adds_then n old mid new _ _ _ _ one two)
    (λ v w. (
      λ h. elim h [ inl x ↦ ((iff v (n + w)).0 (inl x.0), x.1, x.2) | inr x ↦ ((iff v (n + w)).0 (inr x.0), x.1, x.2) ],
      λ h. elim ((iff v (n + w)).1 h.0) [ inl x ↦ inl (x, h.1, h.2) | inr x ↦ inr (x, h.1, h.2) ],
    ))
    (λ v a. (
      λ h. elim h [ inl x ↦ ((iff v (n + n + a)).0 (inl x.0), x.1) | inr x ↦ ((iff v (n + n + a)).0 (inr x.0), x.1) ],
      λ h. elim ((iff v (n + n + a)).1 h.0) [ inl x ↦ inl (x, h.1) | inr x ↦ inr (x, h.1) ],
    ))

-- a list of places with a property has it at each
pub all_from : (P : ℕ → Type 0) (xs : List ℕ) → ((v : ℕ) → Contains xs v → P v) → All P xs
all_from P xs h k d lt = h (get_or xs k d) (Contains-get_or xs k d lt)
