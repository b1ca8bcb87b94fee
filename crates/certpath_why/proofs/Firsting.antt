-- Equal rows have one number.
use Rattle.std.specs.Prelude.{◌↔◌}
use Rattle.std.proofs.Common.{◌≡◌, ◌∙◌, ap, sym, subst, ℕ, ◌+◌, ◌<◌, cond, List, [], ◌∷◌, ◌++◌, length, length-append, arith, get_or, Some, None, Bor, Vec, Global, inl, inr}
use Rattle.std.specs.Cmp.Lexicographic.{slice_cmp}
use Rattle.std.specs.Ordering.{nat_cmp}
use Rattle.std.specs.BTreeMap as mapped
use Rattle.std.specs.BTreeMap.{BTreeMap, is_at}
use Rattle.std.specs.Map.{lookup}
use Rattle.std.proofs.Math.ListN.{get_or-append}
use Rattle.std.proofs.Math.Seq.{get_or-append_seam}
use Rattle.std.proofs.lemmas.Bool.{cases_lt, cases_Bool, cond-true, cond-false}
use Rattle.cert_graph.proofs.Gathering.{E, R, same}
use Rattle.cert_graph.proofs.PlacesOfNodes.{element_at}
use Rattle.certpath_why.specs.Firsts.{AreFirsts, AreFirstsOf, AreRowsKnown, HasRow, IsFirst, IsFirstOf}

some_none : {n : ℕ} → Some n ≡ None → ⊥
some_none e = cc

one_number : {m n : ℕ} → Some m ≡ Some n → m ≡ n
one_number e = cc

-- ---- a map of rows

-- what it has depends on the octets alone
by_octets : (m : BTreeMap (Bor (List ℕ)) ℕ) (q t : Bor (List ℕ)) → q.now ≡ t.now → mapped.get R m q ≡ mapped.get R m t
by_octets m q t e = ap (λ l. lookup (is_at (λ (b : Bor (List ℕ)). slice_cmp nat_cmp l b.now)) m.entries) e

pub known_none : (rows : List (Vec ℕ Global)) (m : BTreeMap (Bor (List ℕ)) ℕ) → m.entries ≡ [] → AreRowsKnown rows 0 m
known_none rows m empty = record {
  first = λ q n is.
      let none : mapped.get R m q ≡ None = ap (λ es. lookup (is_at (R q)) es) empty in
      absurd (some_none (sym is ∙ none));
  met = λ q i lt has none. absurd (omega (arith, lt));
}

module _ (rows : List (Vec ℕ Global)) (k : ℕ) (t : Bor (List ℕ)) (lt : k < length rows) (own : (r : Vec ℕ Global) → t.now ≡ (get_or rows k r).items) (m : BTreeMap (Bor (List ℕ)) ℕ) (h : AreRowsKnown rows k m) where
  -- another row of this number is equal
  one_row : (q : List ℕ) (i : ℕ) → i ≡ k → HasRow rows i q → q ≡ t.now
  one_row q i here has =
      let d = (element_at rows k lt).0 in
      sym (has d) ∙ ap (λ j. (get_or rows j d).items) here ∙ sym (own d)

  -- the row has a number
  pub known_same : (n : ℕ) → mapped.get R m t ≡ Some n → AreRowsKnown rows (k + 1) m
  known_same n is = record {
    first = λ q v at. let f = h.first q v at in let less = f.0 in (omega (arith, less), f.1);
    met = λ q i under has none. elim (cases_lt i k) [
      | inl less ↦ h.met q i less has none
      | inr past ↦
          let here : i ≡ k = omega (arith, under, past) in
          some_none (sym is ∙ sym (by_octets m q t (one_row q.now i here has)) ∙ none)
    ];
  }

  pub first_same : (n : ℕ) → mapped.get R m t ≡ Some n → IsFirst rows k n
  first_same n is =
      let f = h.first t n is in
      let less = f.0 in
      (omega (arith, less), λ r. subst (λ l. IsFirstOf rows l n) (own r) f.1)

  -- it is a new one
  new_first : mapped.get R m t ≡ None → IsFirstOf rows t.now k
  new_first none = record { has = λ r. sym (own r); none_before = λ i less has. h.met t i less has none }

  pub first_new : mapped.get R m t ≡ None → IsFirst rows k k
  first_new none = (omega arith, λ r. subst (λ l. IsFirstOf rows l k) (own r) (new_first none))

  pub known_more : (n : BTreeMap (Bor (List ℕ)) ℕ) → mapped.get R m t ≡ None → ((q : Bor (List ℕ)) → mapped.get R n q ≡ cond (E t.now q.now) (Some k) (mapped.get R m q)) → AreRowsKnown rows (k + 1) n
  known_more n none update = record {
    first = λ q v is. elim (cases_Bool (E t.now q.now)) [
      | inl eq ↦
          let here : k ≡ v = sym (one_number (sym is ∙ update q ∙ cond-true _ _ _ eq)) in
          (omega (arith, here), subst (IsFirstOf rows q.now) here (subst (λ l. IsFirstOf rows l k) ((same t.now q.now).0 eq) (new_first none)))
      | inr un ↦ let f = h.first q v (sym (update q ∙ cond-false _ _ _ un) ∙ is) in let less = f.0 in (omega (arith, less), f.1)
    ];
    met = λ q i under has nothing. elim (cases_Bool (E t.now q.now)) [
      | inl eq ↦ some_none (sym (update q ∙ cond-true _ _ _ eq) ∙ nothing)
      | inr un ↦ elim (cases_lt i k) [
        | inl less ↦ h.met q i less has (sym (update q ∙ cond-false _ _ _ un) ∙ nothing)
        | inr past ↦
            let here : i ≡ k = omega (arith, under, past) in
            some_none (sym (update q ∙ cond-true _ _ _ ((same t.now q.now).1 (sym (one_row q.now i here has)))) ∙ nothing)
      ]
    ];
  }

-- ---- the first numbers

pub firsts_none : (rows : List (Vec ℕ Global)) (firsts : List ℕ) → firsts ≡ [] → AreFirstsOf rows 0 firsts
firsts_none rows firsts empty = record { count = ap length empty; each = λ i lt. absurd (omega (arith, lt)) }

pub firsts_more : (rows : List (Vec ℕ Global)) (k : ℕ) (firsts : List ℕ) (n : ℕ) → AreFirstsOf rows k firsts → IsFirst rows k n → AreFirstsOf rows (k + 1) (firsts ++ n ∷ [])
firsts_more rows k firsts n h is =
    let long = length-append firsts (n ∷ []) in
    let count = h.count in record {
      count = omega arith;
      each = λ i lt. elim (cases_lt i k) [
        | inl less ↦
            let before : get_or (firsts ++ n ∷ []) i 0 ≡ get_or firsts i 0 = get_or-append firsts (n ∷ []) 0 i (omega arith) in
            subst (IsFirst rows i) (sym before) (h.each i less)
        | inr past ↦
            let here : i ≡ k = omega arith in
            let end : i ≡ length firsts = omega arith in
            let last : get_or (firsts ++ n ∷ []) i 0 ≡ n = ap (λ j. get_or (firsts ++ n ∷ []) j 0) end ∙ get_or-append_seam firsts n [] 0 in
            subst (IsFirst rows i) (sym last) (subst (λ j. IsFirst rows j n) (sym here) is)
      ];
    }

-- exactly equal rows have one number
pub firsts_iff : (rows : List (Vec ℕ Global)) (firsts : List ℕ) → AreFirsts rows firsts → (i j : ℕ) → i < length rows → j < length rows
    → (get_or firsts i 0 ≡ get_or firsts j 0) ↔ ((r : Vec ℕ Global) → (get_or rows i r).items ≡ (get_or rows j r).items)
firsts_iff rows firsts are i j lt less =
    let d = (element_at rows i lt).0 in
    let a = are.each i lt in
    let b = are.each j less in (
      λ e r. sym ((a.1 r).has r) ∙ ap (λ n. (get_or rows n r).items) e ∙ (b.1 r).has r,
      λ same.
          let n = get_or firsts i 0 in
          let m = get_or firsts j 0 in
          let f = a.1 d in
          let g : IsFirstOf rows (get_or rows i d).items m = subst (λ l. IsFirstOf rows l m) (sym (same d)) (b.1 d) in
          elim (cases_lt n m) [
            | inl under ↦ absurd (g.none_before n under f.has)
            | inr past ↦ elim (cases_lt m n) [ inl under ↦ absurd (f.none_before m under g.has) | inr over ↦ omega (arith, past, over) ]
          ],
    )
