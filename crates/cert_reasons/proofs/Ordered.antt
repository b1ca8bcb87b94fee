-- Lists of reasons, from the first on.
use Rattle.std.specs.Prelude.{◌↔◌, ◌⊎◌}
use Rattle.std.proofs.Common.{◌≡◌, ◌∙◌, refl, ap, sym, subst, zero, suc, ℕ, ◌+◌, ◌<◌, ◌≤◌, List, [], ◌∷◌, ◌++◌, length, length-append, arith, get_or, inl, inr}
use Rattle.std.specs.List.{Contains, AllPairs}
use Rattle.std.proofs.Math.ListN.{get_or-append}
use Rattle.std.proofs.Math.Seq.{get_or-append_seam}
use Rattle.std.proofs.lemmas.Bool.{cases_lt}
use Rattle.std.proofs.lemmas.List.{get_or_default}
use Rattle.cert_reasons.specs.Order.{IsBefore, AreAll, AreUpTo, behind}

-- what a list with one element more contains
contains_more : {R : Type 0} (rs : List R) (x r : R) → Contains (rs ++ x ∷ []) r ↔ (Contains rs r ⊎ (x ≡ r))
contains_more rs x r =
    let long = length-append rs (x ∷ []) in (
      λ h. let lt = h.1 in elim (cases_lt h.0 (length rs)) [
        | inl less ↦ inl (h.0, less, sym (get_or-append rs (x ∷ []) r h.0 less) ∙ h.2)
        | inr past ↦
            let same : length rs ≡ h.0 = omega arith in
            inr (sym (subst (λ i. get_or (rs ++ x ∷ []) i r ≡ x) same (get_or-append_seam rs x [] r)) ∙ h.2)
      ],
      λ h. elim h [
        | inl y ↦ let less = y.1 in (y.0, omega arith, get_or-append rs (x ∷ []) r y.0 less ∙ y.2)
        | inr e ↦ (length rs, omega arith, get_or-append_seam rs x [] r ∙ e)
      ],
    )

default_same : {R : Type 0} (rs : List R) (i : ℕ) (d : R) → i < length rs → get_or rs i (get_or rs i d) ≡ get_or rs i d
default_same rs i d lt = sym (get_or_default rs i d (get_or rs i d) lt)

pair_same : (p q : ℕ × ℕ) → p.0 ≡ q.0 → p.1 ≡ q.1 → p ≡ q
pair_same p q a b = ap (λ x. (x, p.1)) a ∙ ap (λ y. (q.0, y)) b

-- each comes before one more
pairs_more : {R : Type 0} (Q : R → R → Type 0) (rs : List R) (x : R) → AllPairs Q rs → ((r : R) → Contains rs r → Q r x) → AllPairs Q (rs ++ x ∷ [])
pairs_more Q rs x h before i j d lt end =
    let long = length-append rs (x ∷ []) in
    let below : i < length rs = omega arith in
    let first = get_or-append rs (x ∷ []) d i below in
    elim (cases_lt j (length rs)) [
      | inl less ↦ subst (λ z. Q (get_or (rs ++ x ∷ []) i d) z) (sym (get_or-append rs (x ∷ []) d j less)) (subst (λ z. Q z (get_or rs j d)) (sym first) (h i j d lt less))
      | inr past ↦
          let same : length rs ≡ j = omega arith in
          let last : get_or (rs ++ x ∷ []) j d ≡ x = subst (λ k. get_or (rs ++ x ∷ []) k d ≡ x) same (get_or-append_seam rs x [] d) in
          subst (λ z. Q (get_or (rs ++ x ∷ []) i d) z) (sym last) (subst (λ z. Q z x) (sym first) (before (get_or rs i d) (i, below, default_same rs i d below)))
    ]

module _ {R : Type 0} (order : R → ℕ × ℕ) (Stands : R → Type 0) where
  pub up_none : AreUpTo order Stands (0, 0) []
  up_none = record {
    exact = λ r. (λ h. let lt = h.1 in absurd (omega arith), λ h. absurd (elim h.1 [ inl lt ↦ omega arith | inr y ↦ let lt = y.1 in omega arith ]));
    ordered = λ i j d lt end. absurd (omega arith);
  }

  -- a reason that applies
  pub up_more : (rs : List R) (x : R) → ((r : R) → order r ≡ order x → r ≡ x) → AreUpTo order Stands (order x) rs → Stands x → AreUpTo order Stands (behind (order x)) (rs ++ x ∷ [])
  up_more rs x one h stands = record {
    exact = λ r. let m = contains_more rs x r in (
      λ at. elim (m.0 at) [
        | inl y ↦ let o = (h.exact r).0 y in (o.0, elim o.1 [ inl lt ↦ inl lt | inr e ↦ let lt = e.1 in inr (e.0, omega arith) ])
        | inr e ↦ (subst Stands e stands, inr (ap (λ z. (order z).0) (sym e), let same : (order x).1 ≡ (order r).1 = ap (λ z. (order z).1) e in omega arith))
      ],
      λ o. elim o.1 [
        | inl lt ↦ m.1 (inl ((h.exact r).1 (o.0, inl lt)))
        | inr e ↦ let lt = e.1 in elim (cases_lt (order r).1 (order x).1) [
          | inl less ↦ m.1 (inl ((h.exact r).1 (o.0, inr (e.0, less))))
          | inr past ↦ let same : (order r).1 ≡ (order x).1 = omega arith in m.1 (inr (sym (one r (pair_same (order r) (order x) e.0 same))))
        ]
      ],
    );
    ordered = pairs_more (λ r s. IsBefore (order r) (order s)) rs x h.ordered (λ r at. ((h.exact r).0 at).1);
  }

  -- one that doesn't apply
  pub up_same : (rs : List R) (x : R) → ((r : R) → order r ≡ order x → r ≡ x) → AreUpTo order Stands (order x) rs → (Stands x → ⊥) → AreUpTo order Stands (behind (order x)) rs
  up_same rs x one h none = record {
    exact = λ r. (
      λ at. let o = (h.exact r).0 at in (o.0, elim o.1 [ inl lt ↦ inl lt | inr e ↦ let lt = e.1 in inr (e.0, omega arith) ]),
      λ o. elim o.1 [
        | inl lt ↦ (h.exact r).1 (o.0, inl lt)
        | inr e ↦ let lt = e.1 in elim (cases_lt (order r).1 (order x).1) [
          | inl less ↦ (h.exact r).1 (o.0, inr (e.0, less))
          | inr past ↦ let same : (order r).1 ≡ (order x).1 = omega arith in absurd (none (subst Stands (one r (pair_same (order r) (order x) e.0 same)) o.0))
        ]
      ],
    );
    ordered = h.ordered;
  }

  -- none between two places
  pub up_skip : (rs : List R) (kind from to : ℕ) → from ≤ to → AreUpTo order Stands (kind, from) rs → ((r : R) → Stands r → (order r).0 ≡ kind → from ≤ (order r).1 → (order r).1 < to → ⊥) → AreUpTo order Stands (kind, to) rs
  up_skip rs kind from to le h none = record {
    exact = λ r. (
      λ at. let o = (h.exact r).0 at in (o.0, elim o.1 [ inl lt ↦ inl lt | inr e ↦ let lt = e.1 in inr (e.0, omega arith) ]),
      λ o. (h.exact r).1 (
        o.0,
        elim o.1 [
          | inl lt ↦ inl lt
          | inr e ↦ elim (cases_lt (order r).1 from) [
            | inl less ↦ inr (e.0, less)
            | inr past ↦ absurd (none r o.0 e.0 past e.1)
          ]
        ],
      ),
    );
    ordered = h.ordered;
  }

  -- all of one kind
  pub up_next : (rs : List R) (kind place : ℕ) → AreUpTo order Stands (kind, place) rs → ((r : R) → Stands r → (order r).0 ≡ kind → (order r).1 < place) → AreUpTo order Stands (kind + 1, 0) rs
  up_next rs kind place h end = record {
    exact = λ r. (
      λ at. let o = (h.exact r).0 at in (o.0, inl (elim o.1 [ inl lt ↦ omega arith | inr e ↦ let same = e.0 in omega arith ])),
      λ o. (h.exact r).1 (
        o.0,
        elim o.1 [
          | inl lt ↦ elim (cases_lt (order r).0 kind) [
            | inl less ↦ inl less
            | inr past ↦ let same : (order r).0 ≡ kind = omega arith in inr (same, end r o.0 same)
          ]
          | inr e ↦ let lt = e.1 in absurd (omega arith)
        ],
      ),
    );
    ordered = h.ordered;
  }

  -- all kinds
  pub up_all : (rs : List R) (kind : ℕ) → AreUpTo order Stands (kind, 0) rs → ((r : R) → (order r).0 < kind) → AreAll order Stands rs
  up_all rs kind h end = record { exact = λ r. (λ at. ((h.exact r).0 at).0, λ s. (h.exact r).1 (s, inl (end r))); ordered = h.ordered }

-- all of other reasons that apply in the same cases
pub all_as : {R : Type 0} (order : R → ℕ × ℕ) (S T : R → Type 0) (rs : List R) → AreAll order S rs → ((r : R) → S r ↔ T r) → AreAll order T rs
all_as order S T rs h same = record { exact = λ r. (λ c. (same r).0 ((h.exact r).0 c), λ t. (h.exact r).1 ((same r).1 t)); ordered = h.ordered }

-- the list of all reasons is empty exactly if none applies
pub empty_iff : {R : Type 0} (order : R → ℕ × ℕ) (S : R → Type 0) (rs : List R) → AreAll order S rs → (rs ≡ []) ↔ ((r : R) → S r → ⊥)
empty_iff order S [] h = (λ e r s. let lt = ((h.exact r).1 s).1 in absurd (omega arith), λ n. refl)
empty_iff order S (x ∷ rs) h = (λ e. absurd (cc), λ n. absurd (n x ((h.exact x).0 (0, (let lt : 0 < length (x ∷ rs) = omega arith in lt), refl))))

-- ---- one list

irreflexive : (p : ℕ × ℕ) → IsBefore p p → ⊥
irreflexive p h = elim h [ inl lt ↦ omega arith | inr y ↦ let lt = y.1 in omega arith ]

asymmetric : (p q : ℕ × ℕ) → IsBefore p q → IsBefore q p → ⊥
asymmetric p q h g =
    elim h [
      | inl lt ↦ elim g [ inl less ↦ omega arith | inr z ↦ let same = z.0 in omega arith ]
      | inr y ↦ let same = y.0 in let lt = y.1 in elim g [ inl less ↦ omega arith | inr z ↦ let less = z.1 in omega arith ]
    ]

later : {R : Type 0} (x : R) (rs : List R) (r : R) → Contains rs r → Contains (x ∷ rs) r
later x rs r h = let lt = h.1 in (suc h.0, (let next : suc h.0 < length (x ∷ rs) = omega arith in next), h.2)

parted : {R : Type 0} (x : R) (rs : List R) (r : R) → Contains (x ∷ rs) r → (x ≡ r) ⊎ Contains rs r
parted x rs r (zero, lt, is) = inl is
parted x rs r (suc k, lt, is) = inr (k, (let less : k < length rs = omega (arith, lt) in less), is)

behind_first : {R : Type 0} (Q : R → R → Type 0) (x : R) (rs : List R) → AllPairs Q (x ∷ rs) → (r : R) → Contains rs r → Q x r
behind_first Q x rs h r at =
    let lt = at.1 in
    let begins : 0 < suc at.0 = omega arith in
    let ends : suc at.0 < length (x ∷ rs) = omega arith in
    subst (λ z. Q x z) at.2 (h 0 (suc at.0) r begins ends)

rest_pairs : {R : Type 0} (Q : R → R → Type 0) (x : R) (rs : List R) → AllPairs Q (x ∷ rs) → AllPairs Q rs
rest_pairs Q x rs h i j d lt end = h (suc i) (suc j) d (omega arith) (omega arith)

module _ {R : Type 0} (order : R → ℕ × ℕ) where
  abbrev Before : R → R → Type 0
  Before r s = IsBefore (order r) (order s)

  first_same : (x y : R) (rs ss : List R) → AllPairs Before (x ∷ rs) → AllPairs Before (y ∷ ss) → ((r : R) → Contains (x ∷ rs) r ↔ Contains (y ∷ ss) r) → x ≡ y
  first_same x y rs ss h g same =
      elim (parted x rs y ((same y).1 (0, (let lt : 0 < length (y ∷ ss) = omega arith in lt), refl))) [
        | inl e ↦ e
        | inr at ↦ elim (parted y ss x ((same x).0 (0, (let lt : 0 < length (x ∷ rs) = omega arith in lt), refl))) [
          | inl e ↦ sym e
          | inr there ↦ absurd (asymmetric (order x) (order y) (behind_first Before x rs h y at) (behind_first Before y ss g x there))
        ]
      ]

  rest_member : (x y : R) (rs ss : List R) → x ≡ y → AllPairs Before (x ∷ rs) → ((r : R) → Contains (x ∷ rs) r → Contains (y ∷ ss) r) → (r : R) → Contains rs r → Contains ss r
  rest_member x y rs ss e h into r at = elim (parted y ss r (into r (later x rs r at))) [
    | inl same ↦ absurd (irreflexive (order r) (subst (λ z. IsBefore (order z) (order r)) (e ∙ same) (behind_first Before x rs h r at)))
    | inr there ↦ there
  ]

  unique : (rs ss : List R) → AllPairs Before rs → AllPairs Before ss → ((r : R) → Contains rs r ↔ Contains ss r) → rs ≡ ss
  unique [] [] h g same = refl
  unique [] (y ∷ ss) h g same = let lt = ((same y).1 (0, (let first : 0 < length (y ∷ ss) = omega arith in first), refl)).1 in absurd (omega arith)
  unique (x ∷ rs) [] h g same = let lt = ((same x).0 (0, (let first : 0 < length (x ∷ rs) = omega arith in first), refl)).1 in absurd (omega arith)
  unique (x ∷ rs) (y ∷ ss) h g same =
      let e = first_same x y rs ss h g same in
      let rest = unique rs ss (rest_pairs Before x rs h) (rest_pairs Before y ss g) (λ r. (rest_member x y rs ss e h (λ s. (same s).0) r, rest_member y x ss rs (sym e) g (λ s. (same s).1) r)) in
      ap (λ z. z ∷ rs) e ∙ ap (λ zs. y ∷ zs) rest

  -- the reasons that apply determine the list
  pub one_list : (Stands : R → Type 0) (rs ss : List R) → AreAll order Stands rs → AreAll order Stands ss → rs ≡ ss
  one_list Stands rs ss h g = unique rs ss h.ordered g.ordered (λ r. (λ at. (g.exact r).1 ((h.exact r).0 at), λ at. (h.exact r).1 ((g.exact r).0 at)))
