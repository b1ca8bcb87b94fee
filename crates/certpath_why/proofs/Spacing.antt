-- Ranges with a position between each two, and without one of their positions.
use Rattle.std.specs.Prelude.{◌↔◌, ◌⊎◌, ◌≢◌, IsTrue}
use Rattle.std.proofs.Common.{◌≡◌, ◌∙◌, refl, ap, sym, subst, ℕ, zero, suc, ◌+◌, ◌-◌, ◌<◌, ◌≤◌, List, [], ◌∷◌, ◌++◌, length, take, drop, get_or, append_assoc, arith, inl, inr, Option, Some, None, Bool, false}
use Rattle.std.specs.List.{Contains, AllPairs}
use Rattle.std.specs.List.Sorted.{IsStrictlyIncreasing, IsNonDecreasingBy}
use Rattle.std.proofs.lemmas.Bool.{cases_lt}
use Rattle.std.proofs.lemmas.List.{length-take, take_more, take_all, take-append-drop}
use Rattle.std.proofs.lemmas.List.Elements.{Contains-append_left, Contains-append_right, Contains-append_cases, Contains-get_or}
use Rattle.std.proofs.lemmas.List.Kept.{AllPairs-from_increasing}
use Rattle.std.proofs.Math.Seq.{drop-cons}
use Rattle.certpath_why.specs.Ranges.{AreRanges, IsInRanges}
use Rattle.certpath_why.specs.Cuts.{ahead, opened, AreBelow, AreSpaced, IsBack, CutsTo, IsCutOf, IsFront, IsReadied, IsReady, IsTaken}
use Rattle.certpath_why.specs.declared.cuts.Cut.{Cut}
use Rattle.certpath_why.specs.declared.cuts.Walk.{Walk}
use Rattle.certpath_why.specs.declared.ranges.Range.{Range}
use Rattle.certpath_why.proofs.Ranging.{contains_more}

-- ---- the first so many of two lists

drop_one : {X : Type 0} (xs : List X) (i : ℕ) (d : X) → i < length xs → drop i xs ≡ get_or xs i d ∷ drop (i + 1) xs
drop_one xs i d lt = let e : suc i ≡ i + 1 = omega arith in drop-cons xs i d lt ∙ ap (λ k. get_or xs i d ∷ drop k xs) e

pub take_both : {X : Type 0} (n : ℕ) (a b : List X) → take n (a ++ b) ≡ take n a ++ take (n - length a) b
take_both zero [] b = refl
take_both (suc n) [] b = let e : suc n - 0 ≡ suc n = omega arith in sym (ap (λ k. take k b) e)
take_both zero (x ∷ a) b = let e : 0 - suc (length a) ≡ 0 = omega arith in sym (ap (λ k. take k b) e)
take_both (suc n) (x ∷ a) b = let e : n - length a ≡ suc n - suc (length a) = omega arith in ap (λ l. x ∷ l) (take_both n a b ∙ ap (λ k. take n a ++ take k b) e)

pub more_shown : {X : Type 0} (n : ℕ) (rs shown more : List X) → shown ≡ take n rs → shown ++ take (n - length shown) more ≡ take n (rs ++ more)
more_shown n rs shown more is =
    let long : length shown ≡ length (take n rs) = ap length is in
    let cut = length-take n rs in
    let room : n - length shown ≡ n - length rs = omega arith in
    ap (λ l. l ++ take (n - length shown) more) is ∙ ap (λ k. take n rs ++ take k more) room ∙ sym (take_both n rs more)

pub not_true : (b : Bool) → IsTrue b → b ≡ false → ⊥
not_true b t f = cc

-- ---- positions in ranges

pub in_none : (w : ℕ) → IsInRanges [] w → ⊥
in_none w h = let at = h.1 in let lt = at.1 in absurd (omega arith)

has_first : {X : Type 0} (x : X) (xs : List X) → Contains (x ∷ xs) x
has_first x xs = (0, omega arith, refl)

has_later : {X : Type 0} (x y : X) (xs : List X) → Contains xs y → Contains (x ∷ xs) y
has_later x y xs h = let lt = h.1 in (suc h.0, omega arith, h.2)

has_at : {X : Type 0} (x y : X) (xs : List X) (k : ℕ) → k < length (x ∷ xs) → get_or (x ∷ xs) k y ≡ y → (x ≡ y) ⊎ Contains xs y
has_at x y xs zero lt is = inl is
has_at x y xs (suc k) lt is = inr (k, omega arith, is)

pub in_more : (r : Range) (rs : List Range) (w : ℕ) → IsInRanges (r ∷ rs) w ↔ (((r.first ≤ w) × (w ≤ r.last)) ⊎ IsInRanges rs w)
in_more r rs w = (
  λ h. elim (has_at r h.0 rs h.1.0 h.1.1 h.1.2) [
    | inl e ↦ inl (subst (λ (x : Range). x.first ≤ w) (sym e) h.2, subst (λ (x : Range). w ≤ x.last) (sym e) h.3)
    | inr at ↦ inr (h.0, at, h.2, h.3)
  ],
  λ h. elim h [
    | inl y ↦ (r, has_first r rs, y.0, y.1)
    | inr y ↦ (y.0, has_later r y.0 rs y.1, y.2, y.3)
  ],
)

pub in_both : (a b : List Range) (w : ℕ) → IsInRanges (a ++ b) w ↔ (IsInRanges a w ⊎ IsInRanges b w)
in_both a b w = (
  λ h. elim (Contains-append_cases a b h.0 h.1) [ inl at ↦ inl (h.0, at, h.2, h.3) | inr at ↦ inr (h.0, at, h.2, h.3) ],
  λ h. elim h [
    | inl y ↦ (y.0, Contains-append_left a b y.0 y.1, y.2, y.3)
    | inr y ↦ (y.0, Contains-append_right a b y.0 y.1, y.2, y.3)
  ],
)

-- ---- ranges with a position between each two

pub spaced_less : (b c : ℕ) (rs : List Range) → c ≤ b → AreSpaced b rs → AreSpaced c rs
spaced_less b c [] le h = tt
spaced_less b c (r ∷ rs) le h = let low = h.0 in (omega arith, h.1, h.2)

pub spaced_low : (b : ℕ) (rs : List Range) (w : ℕ) → AreSpaced b rs → IsInRanges rs w → b ≤ w
spaced_low b [] w h i = absurd (in_none w i)
spaced_low b (r ∷ rs) w h i = elim ((in_more r rs w).0 i) [
  | inl y ↦ let low = h.0 in let up = y.0 in omega arith
  | inr y ↦ let low = h.0 in let some = h.1 in let next = spaced_low (r.last + 2) rs w h.2 y in omega arith
]

pub spaced_back : (b : ℕ) (a c : List Range) → AreSpaced b (a ++ c) → AreSpaced 0 c
spaced_back b [] c h = spaced_less b 0 c (omega arith) h
spaced_back b (r ∷ a) c h = spaced_back (r.last + 2) a c h.2

pub spaced_between : (b : ℕ) (a c : List Range) (v w : ℕ) → AreSpaced b (a ++ c) → IsInRanges a v → IsInRanges c w → v + 1 < w
spaced_between b [] c v w h i j = absurd (in_none v i)
spaced_between b (r ∷ a) c v w h i j = elim ((in_more r a v).0 i) [
  | inl y ↦ let up = y.1 in let low = spaced_low (r.last + 2) (a ++ c) w h.2 ((in_both a c w).1 (inr j)) in omega arith
  | inr y ↦ spaced_between (r.last + 2) a c v w h.2 y j
]

pub spaced_at : (b : ℕ) (rs : List Range) (k : ℕ) (d : Range) → AreSpaced b rs → k < length rs → (b ≤ (get_or rs k d).first) × ((get_or rs k d).first ≤ (get_or rs k d).last)
spaced_at b [] k d h lt = absurd (omega arith)
spaced_at b (r ∷ rs) zero d h lt = (h.0, h.1)
spaced_at b (r ∷ rs) (suc k) d h lt =
    let low = h.0 in
    let some = h.1 in
    let next = spaced_at (r.last + 2) rs k d h.2 (omega arith) in
    let one = next.0 in
    (omega arith, next.1)

abbrev pub IsApart : Range → Range → Type 0
IsApart r s = r.last + 1 < s.first

pub spaced_pairs : (b : ℕ) (rs : List Range) → AreSpaced b rs → AllPairs IsApart rs
spaced_pairs b [] h i j d less lt = absurd (omega arith)
spaced_pairs b (r ∷ rs) h i zero d less lt = absurd (omega arith)
spaced_pairs b (r ∷ rs) h zero (suc j) d less lt = let next = spaced_at (r.last + 2) rs j d h.2 (omega arith) in let one = next.0 in omega arith
spaced_pairs b (r ∷ rs) h (suc i) (suc j) d less lt = spaced_pairs (r.last + 2) rs h.2 i j d (omega arith) (omega arith)

pub spaced_some : (rs : List Range) → AreSpaced 0 rs → (r : Range) → Contains rs r → r.first ≤ r.last
spaced_some rs h r at = subst (λ (x : Range). x.first ≤ x.last) at.2 (spaced_at 0 rs at.0 r h at.1).1

pub spaced_from : (b : ℕ) (rs : List Range) → ((k : ℕ) (d : Range) → k < length rs → b ≤ (get_or rs k d).first) → AllPairs IsApart rs → ((r : Range) → Contains rs r → r.first ≤ r.last) → AreSpaced b rs
spaced_from b [] low apart some = tt
spaced_from b (r ∷ rs) low apart some = (
  low 0 r (omega arith),
  some r (has_first r rs),
  spaced_from (r.last + 2) rs (λ k d lt. let one : r.last + 1 < (get_or rs k d).first = apart 0 (suc k) d (omega arith) (omega arith) in omega arith)
      (λ i j d less lt. apart (suc i) (suc j) d (omega arith) (omega arith)) (λ x at. some x (has_later r x rs at)),
)

pub ranges_spaced : (P : ℕ → Type 0) (rs : List Range) → AreRanges P rs → AreSpaced 0 rs
ranges_spaced P rs h = spaced_from 0 rs (λ k d lt. omega arith) h.apart h.none_empty

pub spaced_ranges : (P : ℕ → Type 0) (rs : List Range) → AreSpaced 0 rs → ((w : ℕ) → IsInRanges rs w ↔ P w) → AreRanges P rs
spaced_ranges P rs h iff = record { exact = iff; apart = spaced_pairs 0 rs h; none_empty = spaced_some rs h }

pub lasts_rise : (rs : List Range) → AreSpaced 0 rs → IsNonDecreasingBy (λ (r : Range). r.last) rs
lasts_rise rs h i j d le lt = elim (cases_lt i j) [
  | inl less ↦
      let apart : (get_or rs i d).last + 1 < (get_or rs j d).first = spaced_pairs 0 rs h i j d less lt in
      let some = (spaced_at 0 rs j d h lt).1 in
      omega arith
  | inr past ↦ let same : i ≡ j = omega arith in subst (λ k. (get_or rs i d).last ≤ (get_or rs k d).last) same (omega arith)
]

-- a position that is before the range that ends at it or after it
pub in_at : (rs : List Range) (p at : ℕ) → at < length rs → ((d : Range) → ((get_or rs at d).first ≤ p) × (p ≤ (get_or rs at d).last)) → IsInRanges rs p
in_at rs p at lt h =
    let d : Range = record { first = 0; last = 0 } in
    (get_or rs at d, Contains-get_or rs at d lt, (h d).0, (h d).1)

pub not_held : (rs : List Range) (p at : ℕ) → AreSpaced 0 rs → ((k : ℕ) (d : Range) → k < at → (get_or rs k d).last < p) → ((d : Range) → p ≤ (get_or rs at d).last) → at < length rs
    → ((d : Range) → (get_or rs at d).first ≤ p → ⊥) → IsInRanges rs p → ⊥
not_held rs p at h before behind lt not i =
    let r = i.0 in
    let k = i.1.0 in
    let there : get_or rs k r ≡ r = i.1.2 in
    let low = i.2 in
    let up = i.3 in
    elim (cases_lt k at) [
      | inl less ↦ let end : r.last < p = subst (λ (x : Range). x.last < p) there (before k r less) in absurd (omega arith)
      | inr past ↦ elim (cases_lt at k) [
        | inl more ↦
            let apart : (get_or rs at r).last + 1 < r.first = subst (λ (x : Range). (get_or rs at r).last + 1 < x.first) there (spaced_pairs 0 rs h at k r more i.1.1) in
            let end = behind r in
            absurd (omega arith)
        | inr under ↦
            let same : k ≡ at = omega arith in
            not r (subst (λ (x : Range). x.first ≤ p) (sym (subst (λ j. get_or rs j r ≡ r) same there)) low)
      ]
    ]

-- ---- without a position

pub one_in : (r : Range) (w : ℕ) → IsInRanges (r ∷ []) w ↔ ((r.first ≤ w) × (w ≤ r.last))
one_in r w = (λ i. elim ((in_more r [] w).0 i) [ inl y ↦ y | inr y ↦ absurd (in_none w y) ], λ y. (in_more r [] w).1 (inl y))

pub front_in : (x : Range) (p : ℕ) (a : Option Range) (w : ℕ) → IsFront x p a → IsInRanges (opened a) w ↔ ((x.first ≤ w) × (w < p))
front_in x p None w f = (λ i. absurd (in_none w i), λ h. let low = h.0 in let up = h.1 in absurd (omega arith))
front_in x p (Some r) w f =
    let first = f.0 in
    let last = f.1 in (
      λ i. let y = (one_in r w).0 i in let low = y.0 in let up = y.1 in (omega arith, omega arith),
      λ h. let low = h.0 in let up = h.1 in (one_in r w).1 (omega arith, omega arith),
    )

pub back_in : (x : Range) (p : ℕ) (c : Option Range) (w : ℕ) → IsBack x p c → IsInRanges (opened c) w ↔ ((p < w) × (w ≤ x.last))
back_in x p None w f = (λ i. absurd (in_none w i), λ h. let low = h.0 in let up = h.1 in absurd (omega arith))
back_in x p (Some r) w f =
    let first = f.0 in
    let last = f.1 in (
      λ i. let y = (one_in r w).0 i in let low = y.0 in let up = y.1 in (omega arith, omega arith),
      λ h. let low = h.0 in let up = h.1 in (one_in r w).1 (omega arith, omega arith),
    )

-- what is left of a range, with what follows it
parts_spaced : (b : ℕ) (x : Range) (rest : List Range) (p : ℕ) (a c : Option Range) → x.first ≤ p → p ≤ x.last → IsFront x p a → IsBack x p c → AreSpaced b (x ∷ rest) → AreSpaced b (opened a ++ (opened c ++ rest))
parts_spaced b x rest p None None low up f g h = let one = h.0 in spaced_less (x.last + 2) b rest (omega arith) h.2
parts_spaced b x rest p (Some r) None low up f g h =
    let one = h.0 in
    let first = f.0 in
    let last = f.1 in
    let some = f.2 in
    (omega arith, omega arith, spaced_less (x.last + 2) (r.last + 2) rest (omega arith) h.2)
parts_spaced b x rest p None (Some s) low up f g h =
    let one = h.0 in
    let first = g.0 in
    let last = g.1 in
    let some = g.2 in
    (omega arith, omega arith, spaced_less (x.last + 2) (s.last + 2) rest (omega arith) h.2)
parts_spaced b x rest p (Some r) (Some s) low up f g h =
    let one = h.0 in
    let first = f.0 in
    let last = f.1 in
    let some = f.2 in
    let first_2 = g.0 in
    let last_2 = g.1 in
    let some_2 = g.2 in
    (omega arith, omega arith, (omega arith, omega arith, spaced_less (x.last + 2) (s.last + 2) rest (omega arith) h.2))

left_spaced : (b : ℕ) (done : List Range) (x : Range) (rest : List Range) (p : ℕ) (a c : Option Range) → x.first ≤ p → p ≤ x.last → IsFront x p a → IsBack x p c → AreSpaced b (done ++ (x ∷ rest)) → AreSpaced b (done ++ (opened a ++ (opened c ++ rest)))
left_spaced b [] x rest p a c low up f g h = parts_spaced b x rest p a c low up f g h
left_spaced b (r ∷ done) x rest p a c low up f g h = (h.0, h.1, left_spaced (r.last + 2) done x rest p a c low up f g h.2)

left_exact : (done : List Range) (x : Range) (rest : List Range) (p : ℕ) (a c : Option Range) → x.first ≤ p → p ≤ x.last → IsFront x p a → IsBack x p c → AreSpaced 0 (done ++ (x ∷ rest)) → AreBelow p done
    → (w : ℕ) → IsInRanges (done ++ (opened a ++ (opened c ++ rest))) w ↔ (IsInRanges (done ++ (x ∷ rest)) w × (w ≢ p))
left_exact done x rest p a c low up f g h below w =
    let tail : AreSpaced 0 (x ∷ rest) = spaced_back 0 done (x ∷ rest) h in
    let later : IsInRanges rest w → x.last + 2 ≤ w = λ i. spaced_low (x.last + 2) rest w tail.2 i in
    let old = in_both done (x ∷ rest) w in
    let more = in_more x rest w in
    let new = in_both done (opened a ++ (opened c ++ rest)) w in
    let one = in_both (opened a) (opened c ++ rest) w in
    let two = in_both (opened c) rest w in
    let front = front_in x p a w f in
    let back = back_in x p c w g in (
      λ i. elim (new.0 i) [
        | inl d ↦ (old.1 (inl d), λ e. let less = below w d in omega arith)
        | inr j ↦ elim (one.0 j) [
          | inl k ↦ let y = front.0 k in let under = y.1 in let over = y.0 in (old.1 (inr (more.1 (inl (over, omega arith)))), λ e. omega arith)
          | inr k ↦ elim (two.0 k) [
            | inl m ↦ let y = back.0 m in let over = y.0 in (old.1 (inr (more.1 (inl (omega arith, y.1)))), λ e. omega arith)
            | inr m ↦ let far = later m in (old.1 (inr (more.1 (inr m))), λ e. omega arith)
          ]
        ]
      ],
      λ i. elim (old.0 i.0) [
        | inl d ↦ new.1 (inl d)
        | inr j ↦ elim (more.0 j) [
          | inl y ↦ elim (cases_lt w p) [
            | inl less ↦ new.1 (inr (one.1 (inl (front.1 (y.0, less)))))
            | inr past ↦ elim (cases_lt p w) [
              | inl over ↦ new.1 (inr (one.1 (inr (two.1 (inl (back.1 (over, y.1)))))))
              | inr under ↦ let same : w ≡ p = omega arith in absurd (i.1 same)
            ]
          ]
          | inr m ↦ new.1 (inr (one.1 (inr (two.1 (inr m)))))
        ]
      ],
    )

-- ---- a walk over ranges

nowhere : (p : ℕ) (done : List Range) (walk : Walk) → IsReady p done walk → (IsInRanges (opened walk.begun) p → ⊥) → IsInRanges (done ++ ahead walk) p → ⊥
nowhere p done walk ready none i = elim ((in_both done (ahead walk) p).0 i) [
  | inl d ↦ let less = ready.below p d in absurd (omega arith)
  | inr j ↦ elim ((in_both (opened walk.begun) walk.rest.now p).0 j) [ inl k ↦ none k | inr m ↦ ready.past m ]
]

-- nothing is left out if the position isn't there
pub not_taken : (p : ℕ) (done : List Range) (walk : Walk) → CutsTo done walk.cut → AreSpaced 0 (done ++ ahead walk) → IsReady p done walk → (IsInRanges (opened walk.begun) p → ⊥) → IsTaken p (done ++ ahead walk) walk
not_taken p done walk cut spaced ready none = record {
  done = done;
  cut = cut;
  below = ready.below;
  spaced = spaced;
  exact = λ w. (
    λ i. (i, λ e. nowhere p done walk ready none (subst (IsInRanges (done ++ ahead walk)) e i)),
    λ i. i.0,
  );
}

-- a position of the range that was begun
pub taken : (p : ℕ) (done : List Range) (walk new : Walk) (x : Range) (a : Option Range) → AreSpaced 0 (done ++ ahead walk) → IsReady p done walk → walk.begun ≡ Some x → x.first ≤ p → p ≤ x.last → new.rest.now ≡ walk.rest.now
    → IsFront x p a → IsBack x p new.begun → CutsTo (done ++ opened a) new.cut → IsTaken p (done ++ ahead walk) new
taken p done walk new x a spaced ready is low up rest f g cut =
    let left = walk.rest.now in
    let c = new.begun in
    let old_is : done ++ ahead walk ≡ done ++ (x ∷ left) = ap (λ o. done ++ (opened o ++ left)) is in
    let new_is : done ++ (opened a ++ (opened c ++ left)) ≡ (done ++ opened a) ++ ahead new = ap (λ l. done ++ (opened a ++ (opened c ++ l))) (sym rest) ∙ sym (append_assoc done (opened a) (ahead new)) in
    let here : AreSpaced 0 (done ++ (x ∷ left)) = subst (AreSpaced 0) old_is spaced in
    record {
      done = done ++ opened a;
      cut = cut;
      below = λ w i. elim ((in_both done (opened a) w).0 i) [
        | inl d ↦ ready.below w d
        | inr j ↦ ((front_in x p a w f).0 j).1
      ];
      spaced = subst (AreSpaced 0) new_is (left_spaced 0 done x left p a c low up f g here);
      exact = λ w. subst (λ l. IsInRanges l w ↔ (IsInRanges (done ++ ahead walk) w × (w ≢ p))) new_is
          (subst (λ l. IsInRanges (done ++ (opened a ++ (opened c ++ left))) w ↔ (IsInRanges l w × (w ≢ p))) (sym old_is) (left_exact done x left p a c low up f g here ready.below w));
    }

-- ready if the range that was begun has the position
pub ready_begun : (p : ℕ) (done : List Range) (walk : Walk) → CutsTo done walk.cut → AreSpaced 0 (done ++ ahead walk) → AreBelow p done → IsInRanges (opened walk.begun) p → IsReadied p (done ++ ahead walk) walk
ready_begun p done walk cut spaced below here = record {
  done = done;
  cut = cut;
  same = refl;
  ready = record {
    below = below;
    past = λ i. let far = spaced_between 0 (opened walk.begun) walk.rest.now p p (spaced_back 0 done (ahead walk) spaced) here i in absurd (omega arith);
  };
}

-- or if none of those that were not begun has it
pub ready_past : (p : ℕ) (done : List Range) (walk : Walk) → CutsTo done walk.cut → AreSpaced 0 (done ++ ahead walk) → AreBelow p done → (AreSpaced 0 walk.rest.now → IsInRanges walk.rest.now p → ⊥) → IsReadied p (done ++ ahead walk) walk
ready_past p done walk cut spaced below none = record {
  done = done;
  cut = cut;
  same = refl;
  ready = record {
    below = below;
    past = none (spaced_back 0 (opened walk.begun) walk.rest.now (spaced_back 0 done (ahead walk) spaced));
  };
}

-- or if the range is begun that has it
pub ready_at : (p : ℕ) (done : List Range) (walk new : Walk) (at : ℕ) (x : Range) → AreSpaced 0 (done ++ ahead walk) → at < length walk.rest.now → get_or walk.rest.now at x ≡ x → x.first ≤ p → p ≤ x.last
    → CutsTo ((done ++ opened walk.begun) ++ take at walk.rest.now) new.cut → new.begun ≡ Some x → new.rest.now ≡ drop (at + 1) walk.rest.now → IsReadied p (done ++ ahead walk) new
ready_at p done walk new at x spaced lt is low up cut begun rest =
    let left = walk.rest.now in
    let o = opened walk.begun in
    let t = take at left in
    let e = drop (at + 1) left in
    let split : t ++ (x ∷ e) ≡ left = ap (λ l. t ++ l) (ap (λ y. y ∷ e) (sym is) ∙ sym (drop_one left at x lt)) ∙ take-append-drop at left in
    let new_is : ((done ++ o) ++ t) ++ ahead new ≡ ((done ++ o) ++ t) ++ (x ∷ e) = ap (λ b. ((done ++ o) ++ t) ++ (opened b ++ new.rest.now)) begun ∙ ap (λ l. ((done ++ o) ++ t) ++ (x ∷ l)) rest in
    let same : ((done ++ o) ++ t) ++ (x ∷ e) ≡ done ++ ahead walk = append_assoc (done ++ o) t (x ∷ e) ∙ ap (λ l. (done ++ o) ++ l) split ∙ append_assoc done o left in
    let here : AreSpaced 0 (((done ++ o) ++ t) ++ (x ∷ e)) = subst (AreSpaced 0) (sym same) spaced in
    record {
      done = (done ++ o) ++ t;
      cut = cut;
      same = new_is ∙ same;
      ready = record {
        below = λ w i. let far = spaced_between 0 ((done ++ o) ++ t) (x ∷ e) w p here i ((in_more x e p).1 (inl (low, up))) in omega arith;
        past = λ i. let far = spaced_low (x.last + 2) e p (spaced_back 0 ((done ++ o) ++ t) (x ∷ e) here).2 (subst (λ l. IsInRanges l p) rest i) in absurd (omega arith);
      };
    }

-- ---- all positions that are left out

pub record IsOver (all : List Range) (left : List ℕ) (k : ℕ) (walk : Walk) : Type 0 where
  pub done : List Range
  pub cut : CutsTo done walk.cut
  pub spaced : AreSpaced 0 (done ++ ahead walk)
  pub exact : (w : ℕ) → IsInRanges (done ++ ahead walk) w ↔ (IsInRanges all w × (Contains (take k left) w → ⊥))
  pub below : (w j : ℕ) → IsInRanges done w → k ≤ j → j < length left → w < get_or left j 0

pub over_none : (all : List Range) (left : List ℕ) (walk : Walk) → AreSpaced 0 all → CutsTo [] walk.cut → walk.begun ≡ None → walk.rest.now ≡ all → IsOver all left 0 walk
over_none all left walk spaced cut begun rest =
    let is : all ≡ ahead walk = sym (ap (λ b. opened b ++ walk.rest.now) begun ∙ rest) in
    record {
      done = [];
      cut = cut;
      spaced = subst (AreSpaced 0) is spaced;
      exact = λ w. subst (λ l. IsInRanges l w ↔ (IsInRanges all w × (Contains (take 0 left) w → ⊥))) is (λ i. (i, λ c. let lt = c.1 in absurd (omega arith)), λ h. h.0);
      below = λ w j i le lt. absurd (in_none w i);
    }

pub over_more : (all : List Range) (left : List ℕ) (k : ℕ) (walk new : Walk) → IsStrictlyIncreasing left → k < length left → (h : IsOver all left k walk) → IsTaken (get_or left k 0) (h.done ++ ahead walk) new → IsOver all left (k + 1) new
over_more all left k walk new up lt h t =
    let p = get_or left k 0 in
    let is = take_more left k 0 lt in
    record {
      done = t.done;
      cut = t.cut;
      spaced = t.spaced;
      exact = λ w. (
        λ i.
            let y = (t.exact w).0 i in
            let z = (h.exact w).0 y.0 in
            (z.0, λ c. elim ((contains_more (take k left) p w).0 (subst (λ l. Contains l w) is c)) [ inl at ↦ z.1 at | inr e ↦ y.1 (sym e) ]),
        λ z. (t.exact w).1 (
          (h.exact w).1 (z.0, λ c. z.1 (subst (λ l. Contains l w) (sym is) ((contains_more (take k left) p w).1 (inl c)))),
          λ e. z.1 (subst (λ l. Contains l w) (sym is) ((contains_more (take k left) p w).1 (inr (sym e)))),
        ),
      );
      below = λ w j i le less.
          let one : w < p = t.below w i in
          let two : p < get_or left j 0 = AllPairs-from_increasing left up k j 0 (omega arith) less in
          omega arith;
    }

pub over_all : (all : List Range) (left : List ℕ) (k : ℕ) (walk : Walk) (new : Cut) → length left ≤ k → (h : IsOver all left k walk) → CutsTo ((h.done ++ opened walk.begun) ++ walk.rest.now) new
    → IsCutOf (λ w. IsInRanges all w × (Contains left w → ⊥)) new
over_all all left k walk new le h cut = (
  h.done ++ ahead walk,
  spaced_ranges (λ w. IsInRanges all w × (Contains left w → ⊥)) (h.done ++ ahead walk) h.spaced
      (λ w. subst (λ l. IsInRanges (h.done ++ ahead walk) w ↔ (IsInRanges all w × (Contains l w → ⊥))) (take_all k left le) (h.exact w)),
  subst (λ l. CutsTo l new) (append_assoc h.done (opened walk.begun) walk.rest.now) cut,
)
