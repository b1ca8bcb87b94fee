-- To each list the positions with a property were added.
use Rattle.std.specs.Prelude.{◌↔◌, ◌⊎◌}
use Rattle.std.proofs.Common.{◌≡◌, ◌∙◌, ap, sym, subst, refl, ℕ, ◌+◌, ◌<◌, ◌≤◌, List, [], ◌∷◌, ◌++◌, length, arith, get_or, set, take, Vec, Global, inl, inr}
use Rattle.std.specs.List.{Contains}
use Rattle.std.proofs.lemmas.Bool.{cases_eq}
use Rattle.std.proofs.lemmas.List.{get_or_default, length-set, get_or-set_same, get_or-set_other, take_more, take_all}
use Rattle.std.proofs.lemmas.List.Elements.{Contains-append_left, Contains-append_right, Contains-append_cases, Contains-push, Contains-push_cases}
use Rattle.certpath_why.specs.Adding.{Adds, IsRowOf}

-- ---- what was added

pub adds_none : (P : ℕ → ℕ → Type 0) (ls : List (Vec ℕ Global)) → ((i w : ℕ) → P i w → ⊥) → Adds P ls ls
adds_none P ls none = record { count = refl; exact = λ i w r lt. (λ c. inl c, λ x. elim x [ inl c ↦ c | inr p ↦ absurd (none i w p) ]) }

pub adds_as : (P Q : ℕ → ℕ → Type 0) (ls ms : List (Vec ℕ Global)) → ((i w : ℕ) → P i w ↔ Q i w) → Adds P ls ms → Adds Q ls ms
adds_as P Q ls ms iff h = record {
  count = h.count;
  exact = λ i w r lt. (
    λ c. elim ((h.exact i w r lt).0 c) [ inl x ↦ inl x | inr p ↦ inr ((iff i w).0 p) ],
    λ x. elim x [ inl c ↦ (h.exact i w r lt).1 (inl c) | inr q ↦ (h.exact i w r lt).1 (inr ((iff i w).1 q)) ],
  );
}

pub adds_then : (P Q : ℕ → ℕ → Type 0) (ls ms ns : List (Vec ℕ Global)) → Adds P ls ms → Adds Q ms ns → Adds (λ i w. P i w ⊎ Q i w) ls ns
adds_then P Q ls ms ns a b = record {
  count = b.count ∙ a.count;
  exact = λ i w r lt.
      let more : i < length ms = subst (λ n. i < n) (sym a.count) lt in (
        λ c. elim ((b.exact i w r more).0 c) [
          | inl x ↦ elim ((a.exact i w r lt).0 x) [ inl y ↦ inl y | inr p ↦ inr (inl p) ]
          | inr q ↦ inr (inr q)
        ],
        λ x. elim x [
          | inl c ↦ (b.exact i w r more).1 (inl ((a.exact i w r lt).1 (inl c)))
          | inr y ↦ elim y [
            | inl p ↦ (b.exact i w r more).1 (inl ((a.exact i w r lt).1 (inr p)))
            | inr q ↦ (b.exact i w r more).1 (inr q)
          ]
        ],
      );
}

pub one_in : (j i : ℕ) → Contains (j ∷ []) i → i ≡ j
one_in j i c = elim (Contains-push_cases [] j i c) [ inl n ↦ absurd (let lt = n.1 in omega arith) | inr e ↦ sym e ]

pub adds_past : (ls : List (Vec ℕ Global)) (j : ℕ) (signers : List ℕ) → length ls ≤ j → Adds (IsRowOf (j ∷ []) signers) ls ls
adds_past ls j signers past = record {
  count = refl;
  exact = λ i w r lt. (λ c. inl c, λ x. elim x [ inl c ↦ c | inr p ↦ let e = one_in j i p.0 in absurd (omega arith) ]);
}

-- the list at a place was made longer
pub adds_set : (ls : List (Vec ℕ Global)) (j : ℕ) (signers : List ℕ) (one new : Vec ℕ Global) → j < length ls → one ≡ get_or ls j one → new.items ≡ one.items ++ signers → Adds (IsRowOf (j ∷ []) signers) ls (set ls j new)
adds_set ls j signers one new within is more = record {
  count = length-set ls j new;
  exact = λ i w r lt. elim (cases_eq i j) [
    | inl e ↦
        let now : get_or (set ls j new) i r ≡ new = ap (λ k. get_or (set ls j new) k r) e ∙ get_or-set_same ls j new r within in
        let was : get_or ls i r ≡ one = ap (λ k. get_or ls k r) e ∙ get_or_default ls j r one within ∙ sym is in (
          λ c.
              let d : Contains (one.items ++ signers) w = subst (λ l. Contains l w) (ap (λ (v : Vec ℕ Global). v.items) now ∙ more) c in
              elim (Contains-append_cases one.items signers w d) [
                | inl x ↦ inl (subst (λ (v : Vec ℕ Global). Contains v.items w) (sym was) x)
                | inr y ↦ inr (subst (Contains (j ∷ [])) (sym e) (Contains-push [] j), y)
              ],
          λ x.
              let d : Contains (one.items ++ signers) w = elim x [
                | inl c ↦ Contains-append_left one.items signers w (subst (λ (v : Vec ℕ Global). Contains v.items w) was c)
                | inr p ↦ Contains-append_right one.items signers w p.1
              ] in
              subst (λ l. Contains l w) (sym (ap (λ (v : Vec ℕ Global). v.items) now ∙ more)) d,
        )
    | inr other ↦
        let same : get_or (set ls j new) i r ≡ get_or ls i r = get_or-set_other ls j i new r other in (
          λ c. inl (subst (λ (v : Vec ℕ Global). Contains v.items w) same c),
          λ x. elim x [
            | inl c ↦ subst (λ (v : Vec ℕ Global). Contains v.items w) (sym same) c
            | inr p ↦ absurd (other (one_in j i p.0))
          ],
        )
  ];
}

-- ---- a row

pub row_none : (ls : List (Vec ℕ Global)) (row signers : List ℕ) → Adds (IsRowOf (take 0 row) signers) ls ls
row_none ls row signers = adds_none (IsRowOf (take 0 row) signers) ls (λ i w p. let lt = p.0.1 in omega arith)

pub row_more : (ls ms ns : List (Vec ℕ Global)) (row signers : List ℕ) (k : ℕ) → k < length row → Adds (IsRowOf (take k row) signers) ls ms → Adds (IsRowOf (get_or row k 0 ∷ []) signers) ms ns
    → Adds (IsRowOf (take (k + 1) row) signers) ls ns
row_more ls ms ns row signers k lt a b =
    let v = get_or row k 0 in
    let longer = take_more row k 0 lt in
    adds_as (λ i w. IsRowOf (take k row) signers i w ⊎ IsRowOf (v ∷ []) signers i w) (IsRowOf (take (k + 1) row) signers) ls ns
    (λ i w. (
      λ x. elim x [
        | inl p ↦ (subst (λ l. Contains l i) (sym longer) (Contains-append_left (take k row) (v ∷ []) i p.0), p.1)
        | inr q ↦ (subst (λ l. Contains l i) (sym longer) (Contains-append_right (take k row) (v ∷ []) i q.0), q.1)
      ],
      λ y. elim (Contains-append_cases (take k row) (v ∷ []) i (subst (λ l. Contains l i) longer y.0)) [ inl p ↦ inl (p, y.1) | inr q ↦ inr (q, y.1) ],
    )) (adds_then (IsRowOf (take k row) signers) (IsRowOf (v ∷ []) signers) ls ms ns a b)

pub row_all : (ls ms : List (Vec ℕ Global)) (row signers : List ℕ) (k : ℕ) → length row ≤ k → Adds (IsRowOf (take k row) signers) ls ms → Adds (IsRowOf row signers) ls ms
row_all ls ms row signers k le h = subst (λ l. Adds (IsRowOf l signers) ls ms) (take_all k row le) h
