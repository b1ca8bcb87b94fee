-- One place more among those brought together.
use Rattle.std.specs.Prelude.{◌↔◌}
use Rattle.std.proofs.Common.{◌≡◌, ◌∙◌, ap, sym, subst, refl, ℕ, ◌+◌, ◌<◌, Bool, false, List, [], ◌∷◌, ◌++◌, length, length-append, arith, get_or, Option, Some, None, Bor, Ordering, inl, inr, ◌⊎◌}
use Rattle.std.specs.Bool.{Decides}
use Rattle.std.specs.Ordering.{on, nat_cmp, eq_by_cmp}
use Rattle.std.specs.Cmp.Lexicographic.{slice_cmp}
use Rattle.std.specs.List.{Any, Contains}
use Rattle.std.specs.List.Sorted.{IsStrictlyIncreasing}
use Rattle.std.proofs.Math.ListN.{get_or-append}
use Rattle.std.proofs.Math.Seq.{get_or-append_seam}
use Rattle.std.proofs.lemmas.Bool.{cases_lt, cases_eq, cases_Bool}
use Rattle.std.proofs.lemmas.List.Kept.{AllPairs-from_increasing}
use Rattle.std.proofs.lemmas.List.Elements.{Contains-append_left, Contains-push, Contains-push_cases}
use Rattle.std.proofs.lemmas.Map.Text.{is_eq-slice_cmp}
use Rattle.std.proofs.lemmas.Slice.Eq.{bytes_eq-Decides}
use Rattle.cert_graph.proofs.PlacesOfNodes.{element_at}
use Rattle.cert_graph.specs.declared.buckets.Bucket.{Bucket}
use Rattle.cert_graph.specs.declared.places.Place.{Place}
use Rattle.cert_graph.specs.declared.places.Part.{Part}
use Rattle.cert_graph.specs.Places.{text_at, Shows}
use Rattle.cert_graph.specs.Buckets.{AreBuckets, IsPushed}
use Rattle.cert_graph.proofs.Sifted.{push_ascends, met_at_last}

abbrev pub E : List ℕ → List ℕ → Bool
E = eq_by_cmp (slice_cmp nat_cmp)

abbrev pub R : Bor (List ℕ) → Bor (List ℕ) → Ordering
R = on (λ (b : Bor (List ℕ)). b.now) (slice_cmp nat_cmp)

pub same : (a b : List ℕ) → Decides (E a b) (a ≡ b)
same a b = subst (λ r. Decides r (a ≡ b)) (sym (is_eq-slice_cmp a b)) (bytes_eq-Decides a b)

pub unlike : (t q : Bor (List ℕ)) → E t.now q.now ≡ false → t.now ≡ q.now → ⊥
unlike t q un e = let is = (same t.now q.now).1 e in cc

-- among the first of some places
abbrev pub Met : List ℕ → ℕ → ℕ → Type 0
Met ps k v = (i : ℕ) × (i < k) × (get_or ps i 0 ≡ v)

met_more : (ps : List ℕ) (k v : ℕ) → Met ps k v → Met ps (k + 1) v
met_more ps k v h = let less = h.1 in (h.0, omega arith, h.2)

met_last : (ps : List ℕ) (k v : ℕ) → get_or ps k 0 ≡ v → Met ps (k + 1) v
met_last ps k v at = (k, omega arith, at)

met_cases : (ps : List ℕ) (k v u : ℕ) → get_or ps k 0 ≡ v → Met ps (k + 1) u → Met ps k u ⊎ (v ≡ u)
met_cases ps k v u at h = elim (cases_lt h.0 k) [
  | inl less ↦ inl (h.0, less, h.2)
  | inr past ↦ let below = h.1 in let same_place : k ≡ h.0 = omega arith in inr (sym at ∙ ap (λ i. get_or ps i 0) same_place ∙ h.2)
]

-- a bucket of the first of some places
pub record IsSoFar (S : ℕ → List ℕ → Type 0) (ps : List ℕ) (k : ℕ) (b : Bucket) : Type 0 where
  pub ascends : IsStrictlyIncreasing b.places.items
  pub exact : (v : ℕ) → Contains b.places.items v ↔ (Met ps k v × S v b.text.now)

-- the first of some places are in their buckets, and f knows the bucket of each text
pub record Gathered (S : ℕ → List ℕ → Type 0) (ps : List ℕ) (k : ℕ) (f : Bor (List ℕ) → Option ℕ) (bs : List Bucket) : Type 0 where
  pub each : (i : ℕ) (b : Bucket) → i < length bs → IsSoFar S ps k (get_or bs i b)
  pub known : (q : Bor (List ℕ)) (n : ℕ) → f q ≡ Some n → (n < length bs) × ((b : Bucket) → (get_or bs n b).text.now ≡ q.now)
  pub back : (i : ℕ) (q : Bor (List ℕ)) (b : Bucket) → i < length bs → (get_or bs i b).text.now ≡ q.now → f q ≡ Some i
  pub met : (v : ℕ) (q : Bor (List ℕ)) → Met ps k v → S v q.now → f q ≡ None → ⊥

one_number : {m n : ℕ} → Some m ≡ Some n → m ≡ n
one_number e = cc

not_none : {X : Type 0} {x : X} → Some x ≡ None → ⊥
not_none e = cc

pub gathered_none : (S : ℕ → List ℕ → Type 0) (ps : List ℕ) (f : Bor (List ℕ) → Option ℕ) → ((q : Bor (List ℕ)) → f q ≡ None) → Gathered S ps 0 f []
gathered_none S ps f empty = record {
  each = λ i b lt. absurd (omega arith);
  known = λ q n is. absurd (not_none (sym is ∙ empty q));
  back = λ i q b lt. absurd (omega arith);
  met = λ v q m. absurd (omega (arith, m.1));
}

-- a place that shows nothing
pub gathered_same : (S : ℕ → List ℕ → Type 0) (ps : List ℕ) (k v : ℕ) (f : Bor (List ℕ) → Option ℕ) (bs : List Bucket) → get_or ps k 0 ≡ v → ((q : List ℕ) → S v q → ⊥) → Gathered S ps k f bs → Gathered S ps (k + 1) f bs
gathered_same S ps k v f bs at none h = record {
  each = λ i b lt. let x = h.each i b lt in record {
    ascends = x.ascends;
    exact = λ u. (
      λ c. let y = (x.exact u).0 c in (met_more ps k u y.0, y.1),
      λ y. elim (met_cases ps k v u at y.0) [
        | inl old ↦ (x.exact u).1 (old, y.1)
        | inr e ↦ absurd (none (get_or bs i b).text.now (subst (λ z. S z (get_or bs i b).text.now) (sym e) y.1))
      ],
    );
  };
  known = h.known;
  back = h.back;
  met = λ u q m s is. elim (met_cases ps k v u at m) [
    | inl old ↦ h.met u q old s is
    | inr e ↦ none q.now (subst (λ z. S z q.now) (sym e) s)
  ];
}

bucket_more : (S : ℕ → List ℕ → Type 0) (ps : List ℕ) (k v : ℕ) (b c : Bucket) → IsStrictlyIncreasing ps → k < length ps → get_or ps k 0 ≡ v → S v b.text.now
    → IsSoFar S ps k b → c.text ≡ b.text → c.places.items ≡ b.places.items ++ v ∷ [] → IsSoFar S ps (k + 1) c
bucket_more S ps k v b c up lt at shows x text places = record {
  ascends = subst IsStrictlyIncreasing (sym places) (push_ascends b.places.items v x.ascends (λ u has.
      let m = ((x.exact u).0 has).0 in
      let less = AllPairs-from_increasing ps up m.0 k 0 m.1 lt in
      let was = m.2 in
      omega arith));
  exact = λ u. (
    λ has. elim (Contains-push_cases b.places.items v u (subst (λ l. Contains l u) places has)) [
      | inl old ↦ let y = (x.exact u).0 old in (met_more ps k u y.0, subst (λ (t : Bor (List ℕ)). S u t.now) (sym text) y.1)
      | inr e ↦ (met_last ps k u (at ∙ e), subst (λ (t : Bor (List ℕ)). S u t.now) (sym text) (subst (λ z. S z b.text.now) e shows))
    ],
    λ y. subst (λ l. Contains l u) (sym places) (elim (met_cases ps k v u at y.0) [
      | inl old ↦ Contains-append_left b.places.items (v ∷ []) u ((x.exact u).1 (old, subst (λ (t : Bor (List ℕ)). S u t.now) text y.1))
      | inr e ↦ subst (Contains (b.places.items ++ v ∷ [])) e (Contains-push b.places.items v)
    ]),
  );
}

-- a bucket that stays
bucket_same : (S : ℕ → List ℕ → Type 0) (ps : List ℕ) (k v : ℕ) (b : Bucket) → get_or ps k 0 ≡ v → (S v b.text.now → ⊥) → IsSoFar S ps k b → IsSoFar S ps (k + 1) b
bucket_same S ps k v b at none x = record {
  ascends = x.ascends;
  exact = λ u. (
    λ c. let y = (x.exact u).0 c in (met_more ps k u y.0, y.1),
    λ y. elim (met_cases ps k v u at y.0) [
      | inl old ↦ (x.exact u).1 (old, y.1)
      | inr e ↦ absurd (none (subst (λ z. S z b.text.now) (sym e) y.1))
    ],
  );
}

-- a place whose text is known
pub gathered_known : (S : ℕ → List ℕ → Type 0) (one : (v : ℕ) (q r : List ℕ) → S v q → S v r → q ≡ r) (ps : List ℕ) (k v n : ℕ) (f : Bor (List ℕ) → Option ℕ) (t : Bor (List ℕ)) (bs new : List Bucket)
    → IsStrictlyIncreasing ps → k < length ps → get_or ps k 0 ≡ v → S v t.now → f t ≡ Some n → IsPushed bs new n v → Gathered S ps k f bs → Gathered S ps (k + 1) f new
gathered_known S one ps k v n f t bs new up lt at shows is pushed h =
    let count = pushed.count in
    let there = h.known t n is in
    record {
      each = λ i b below.
          let old : i < length bs = omega arith in
          elim (cases_eq i n) [
            | inl e ↦
                let own : IsSoFar S ps k (get_or bs n b) = h.each n b there.0 in
                subst (λ j. IsSoFar S ps (k + 1) (get_or new j b)) (sym e)
                (bucket_more S ps k v (get_or bs n b) (get_or new n b) up lt at (subst (S v) (sym (there.1 b)) shows) own (pushed.text b) (pushed.places b))
            | inr apart ↦
                subst (IsSoFar S ps (k + 1)) (sym (pushed.others i b apart))
                (bucket_same S ps k v (get_or bs i b) at (λ s. apart (one_number (sym (h.back i t b old (one v (get_or bs i b).text.now t.now s shows)) ∙ is))) (h.each i b old))
          ];
      known = λ q m found. let x = h.known q m found in (
        subst (λ l. m < l) (sym pushed.count) x.0,
        λ b. elim (cases_eq m n) [
          | inl e ↦ ap (λ j. (get_or new j b).text.now) e ∙ ap (λ (z : Bor (List ℕ)). z.now) (pushed.text b) ∙ ap (λ j. (get_or bs j b).text.now) (sym e) ∙ x.1 b
          | inr apart ↦ ap (λ (z : Bucket). z.text.now) (pushed.others m b apart) ∙ x.1 b
        ],
      );
      back = λ i q b below text.
          let old : i < length bs = omega arith in
          h.back i q b old (elim (cases_eq i n) [
            | inl e ↦ ap (λ j. (get_or bs j b).text.now) e ∙ ap (λ (z : Bor (List ℕ)). z.now) (sym (pushed.text b)) ∙ ap (λ j. (get_or new j b).text.now) (sym e) ∙ text
            | inr apart ↦ ap (λ (z : Bucket). z.text.now) (sym (pushed.others i b apart)) ∙ text
          ]);
      met = λ u q m s none. elim (met_cases ps k v u at m) [
        | inl old ↦ h.met u q old s none
        | inr e ↦
            let d = (element_at bs n there.0).0 in
            not_none (sym (h.back n q d there.0 (there.1 d ∙ one v t.now q.now shows (subst (λ z. S z q.now) (sym e) s))) ∙ none)
      ];
    }

last_bucket : (bs : List Bucket) (b d : Bucket) (i : ℕ) → i ≡ length bs → get_or (bs ++ b ∷ []) i d ≡ b
last_bucket bs b d i e = ap (λ j. get_or (bs ++ b ∷ []) j d) e ∙ get_or-append_seam bs b [] d

-- a place whose text is new
pub gathered_new : (S : ℕ → List ℕ → Type 0) (one : (v : ℕ) (q r : List ℕ) → S v q → S v r → q ≡ r) (ps : List ℕ) (k v : ℕ) (f g : Bor (List ℕ) → Option ℕ) (t : Bor (List ℕ)) (bs : List Bucket) (b : Bucket)
    → get_or ps k 0 ≡ v → S v t.now → f t ≡ None → ((q : Bor (List ℕ)) → t.now ≡ q.now → g q ≡ Some (length bs)) → ((q : Bor (List ℕ)) → (t.now ≡ q.now → ⊥) → g q ≡ f q) → b.text ≡ t → b.places.items ≡ v ∷ []
    → Gathered S ps k f bs → Gathered S ps (k + 1) g (bs ++ b ∷ [])
gathered_new S one ps k v f g t bs b at shows unknown own apart text places h =
    let long = length-append bs (b ∷ []) in
    let fresh : (i : ℕ) (d : Bucket) → i < length bs → (get_or bs i d).text.now ≡ t.now → ⊥ = λ i d lt e. not_none (sym (h.back i t d lt e) ∙ unknown) in
    record {
      each = λ i d below. elim (cases_lt i (length bs)) [
        | inl lt ↦
            subst (IsSoFar S ps (k + 1)) (sym (get_or-append bs (b ∷ []) d i lt))
            (bucket_same S ps k v (get_or bs i d) at (λ s. fresh i d lt (one v (get_or bs i d).text.now t.now s shows)) (h.each i d lt))
        | inr past ↦
            let last : i ≡ length bs = omega arith in
            subst (IsSoFar S ps (k + 1)) (sym (last_bucket bs b d i last)) (record {
              ascends = subst IsStrictlyIncreasing (sym places) (λ j lt. absurd (omega arith));
              exact = λ u. (
                λ has.
                    let c = subst (λ l. Contains l u) places has in
                    let zero : c.0 ≡ 0 = let lt = c.1 in omega arith in
                    let is : v ≡ u = ap (λ j. get_or (v ∷ []) j u) (sym zero) ∙ c.2 in
                    (met_last ps k u (at ∙ is), subst (λ (z : Bor (List ℕ)). S u z.now) (sym text) (subst (λ z. S z t.now) is shows)),
                λ y.
                    let s : S u t.now = subst (λ (z : Bor (List ℕ)). S u z.now) text y.1 in
                    subst (λ l. Contains l u) (sym places) (elim (met_cases ps k v u at y.0) [
                      | inl old ↦ absurd (h.met u t old s unknown)
                      | inr e ↦ subst (Contains (v ∷ [])) e (0, omega arith, refl)
                    ]),
              );
            })
      ];
      known = λ q n is. elim (cases_Bool (E t.now q.now)) [
        | inl eq ↦
            let mine = (same t.now q.now).0 eq in
            let last : n ≡ length bs = one_number (sym is ∙ own q mine) in
            (omega arith, λ d. ap (λ (z : Bucket). z.text.now) (last_bucket bs b d n last) ∙ ap (λ (z : Bor (List ℕ)). z.now) text ∙ mine)
        | inr un ↦
            let old = h.known q n (sym (apart q (unlike t q un)) ∙ is) in
            let lt = old.0 in
            (omega arith, λ d. ap (λ (z : Bucket). z.text.now) (get_or-append bs (b ∷ []) d n old.0) ∙ old.1 d)
      ];
      back = λ i q d below e. elim (cases_lt i (length bs)) [
        | inl lt ↦
            let mine : (get_or bs i d).text.now ≡ q.now = ap (λ (z : Bucket). z.text.now) (sym (get_or-append bs (b ∷ []) d i lt)) ∙ e in
            apart q (λ s. fresh i d lt (mine ∙ sym s)) ∙ h.back i q d lt mine
        | inr past ↦
            let last : i ≡ length bs = omega arith in
            let mine : t.now ≡ q.now = ap (λ (z : Bor (List ℕ)). z.now) (sym text) ∙ ap (λ (z : Bucket). z.text.now) (sym (last_bucket bs b d i last)) ∙ e in
            own q mine ∙ ap Some (sym last)
      ];
      met = λ u q m s none. elim (met_cases ps k v u at m) [
        | inl old ↦ h.met u q old s (elim (cases_Bool (E t.now q.now)) [
          | inl eq ↦ absurd (not_none (sym (own q ((same t.now q.now).0 eq)) ∙ none))
          | inr un ↦ sym (apart q (unlike t q un)) ∙ none
        ])
        | inr e ↦ not_none (sym (own q (one v t.now q.now shows (subst (λ z. S z q.now) (sym e) s))) ∙ none)
      ];
    }

bucket_of : (S : ℕ → List ℕ → Type 0) (ps : List ℕ) (k : ℕ) (f : Bor (List ℕ) → Option ℕ) (bs : List Bucket) → Gathered S ps k f bs → (v : ℕ) (t : Bor (List ℕ)) → Met ps k v → S v t.now → (o : Option ℕ) → f t ≡ o → Any (λ (b : Bucket). b.text.now ≡ t.now) bs
bucket_of S ps k f bs h v t m s None is = absurd (h.met v t m s is)
bucket_of S ps k f bs h v t m s (Some n) is = let x = h.known t n is in let b = element_at bs n x.0 in (n, b.0, x.0, b.1, ap (λ (z : Bucket). z.text.now) (sym b.1) ∙ x.1 b.0)

pub gathered_all : (S : ℕ → List ℕ → Type 0) (ps : List ℕ) (k : ℕ) (f : Bor (List ℕ) → Option ℕ) (bs : List Bucket) → k ≡ length ps → Gathered S ps k f bs → AreBuckets S ps bs
gathered_all S ps k f bs end h = record {
  each = λ i d lt. let x = h.each i d lt in record {
    ascends = x.ascends;
    exact = λ v. let m = met_at_last ps k v end in (λ c. let y = (x.exact v).0 c in (m.0 y.0, y.1), λ y. (x.exact v).1 (m.1 y.0, y.1));
  };
  complete = λ v q at s.
      let m = (met_at_last ps k v end).1 at in
      let t : Bor (List ℕ) = record { ref_ptr = (0, 0); now = q } in
      bucket_of S ps k f bs h v t m s (f t) refl;
}

held : {X : Type 0} {x y : X} → Some x ≡ Some y → x ≡ y
held e = cc

-- a place shows one text at most
pub one_text : (part : Part) (all : List Place) (v : ℕ) (q r : List ℕ) → Shows part all v q → Shows part all v r → q ≡ r
one_text part all v q r s t = held (sym s ∙ t)

pub shows_none : (part : Part) (all : List Place) (v : ℕ) → text_at part all v ≡ None → (q : List ℕ) → Shows part all v q → ⊥
shows_none part all v none q s = not_none (sym s ∙ none)
