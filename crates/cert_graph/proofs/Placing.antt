-- Links between places, bucket by bucket.
use Rattle.std.specs.Prelude.{◌↔◌, ◌⊎◌}
use Rattle.std.proofs.Common.{◌≡◌, ◌∙◌, ap, sym, subst, refl, ℕ, ◌+◌, ◌-◌, ◌<◌, ◌≤◌, true, false, List, [], ◌++◌, length, length-append, arith, get_or, Option, Some, None, inl, inr}
use Rattle.std.proofs.Math.ListN.{get_or-append}
use Rattle.std.proofs.lemmas.Bool.{cases_lt}
use Rattle.std.proofs.lemmas.List.{get_or-append_right}
use Rattle.std.specs.Prelude.{is_some}
use Rattle.std.specs.List.{All, Contains}
use Rattle.std.specs.List.Sorted.{IsStrictlyIncreasing}
use Rattle.std.proofs.lemmas.List.Elements.{All-contains, Contains-get_or, Contains-append_left, Contains-append_right, Contains-append_cases}
use Rattle.cert_graph.specs.declared.nodes.Group.{Group}
use Rattle.cert_graph.specs.declared.buckets.Bucket.{Bucket}
use Rattle.cert_graph.specs.declared.places.Place.{Place}
use Rattle.cert_graph.specs.declared.places.Part.TheVariants.{Id}
use Rattle.cert_graph.specs.Places.{text_at, Shows}
use Rattle.cert_graph.specs.Buckets.{IsBucket, AreBuckets}
use Rattle.cert_graph.specs.Links.{Adds, IsIdLink, IsPlaceLink, IsPlaceAnchor}
use Rattle.cert_graph.proofs.Adding.{UpTo, up_to_more, adds_then, adds_as}

abbrev pub Nothing : ℕ → ℕ → Type 0
Nothing v a = ⊥

-- both places are in a bucket
abbrev pub InBucket : ℕ → Bucket → ℕ → ℕ → Type 0
InBucket n b v w = (v < n) × (w < n) × Contains b.places.items v × Contains b.places.items (n + w)

none_in : (a : ℕ) → Contains {X = ℕ} [] a → ⊥
none_in a h = let lt = h.1 in absurd (omega arith)

plain : (v : ℕ) → 0 + v ≡ v
plain v = omega arith

-- what a bucket's group adds
pub bucket_iff : (n : ℕ) (b : Bucket) (issued owners : List ℕ) → ((v : ℕ) → Contains issued v ↔ (Contains b.places.items (0 + v) × (v < n))) → ((w : ℕ) → Contains owners w ↔ (Contains b.places.items (n + w) × (w < n)))
    → (v w : ℕ) → (Contains issued v × Contains owners w) ↔ InBucket n b v w
bucket_iff n b issued owners i o v w = (
  λ h. let x = (i v).0 h.0 in let y = (o w).0 h.1 in (x.1, y.1, subst (Contains b.places.items) (plain v) x.0, y.0),
  λ h. ((i v).1 (subst (Contains b.places.items) (sym (plain v)) h.2, h.0), (o w).1 (h.3, h.1)),
)

pub no_anchors : (issued : List ℕ) (v a : ℕ) → (Contains issued v × Contains {X = ℕ} [] a) ↔ Nothing v a
no_anchors issued v a = (λ h. none_in a h.1, λ h. absurd h)

pub ids_all : (all : List Place) (n : ℕ) (places : List ℕ) (bs : List Bucket) (k : ℕ) → k ≡ length bs → AreBuckets (Shows Id all) places bs → (v w : ℕ) → UpTo (InBucket n) bs k v w ↔ IsIdLink all n places v w
ids_all all n places bs k end h v w = (
  λ u.
      let below = u.2 in
      let lt : u.0 < length bs = omega arith in
      let b : IsBucket (Shows Id all) places u.1 = subst (IsBucket (Shows Id all) places) u.3 (h.each u.0 u.1 lt) in
      (u.1.text.now, u.4.0, u.4.1, (b.exact v).0 u.4.2, (b.exact (n + w)).0 u.4.3),
  λ l.
      let some = h.complete v l.0 l.3.0 l.3.1 in
      let b : IsBucket (Shows Id all) places some.1 = subst (IsBucket (Shows Id all) places) some.3 (h.each some.0 some.1 some.2) in
      let lt = some.2 in (
        some.0,
        some.1,
        omega arith,
        some.3,
        (l.1, l.2, (b.exact v).1 (l.3.0, subst (Shows Id all v) (sym some.4) l.3.1), (b.exact (n + w)).1 (l.4.0, subst (Shows Id all (n + w)) (sym some.4) l.4.1)),
      ),
)

never_both : (v w : ℕ) → (⊥ ⊎ ⊥) ↔ ⊥
never_both v w = (λ h. elim h [ inl x ↦ x | inr x ↦ x ], λ h. absurd h)

pub all_below : (n : ℕ) (xs : List ℕ) → ((w : ℕ) → Contains xs w → w < n) → All (λ v. v < n) xs
all_below n xs f = λ k d lt. f (get_or xs k d) (Contains-get_or xs k d lt)

-- one more bucket's links
pub ids_more : (n : ℕ) (old mid new : List Group) (bs : List Bucket) (k : ℕ) (b : Bucket) (issued owners : List ℕ) → b ≡ get_or bs k b → k < length bs
    → ((v : ℕ) → Contains issued v ↔ (Contains b.places.items (0 + v) × (v < n))) → ((w : ℕ) → Contains owners w ↔ (Contains b.places.items (n + w) × (w < n)))
    → Adds n old mid (UpTo (InBucket n) bs k) Nothing → Adds n mid new (λ v w. Contains issued v × Contains owners w) (λ v a. Contains issued v × Contains {X = ℕ} [] a)
    → Adds n old new (UpTo (InBucket n) bs (k + 1)) Nothing
ids_more n old mid new bs k b issued owners at lt i o before more =
    let step = adds_as n mid new _ _ (InBucket n b) Nothing more (bucket_iff n b issued owners i o) (no_anchors issued) in
    adds_as n old new _ _ _ _ (adds_then n old mid new _ _ _ _ before step) (up_to_more (InBucket n) bs k b at lt) never_both

pub bucket_ascends : (S : ℕ → List ℕ → Type 0) (places : List ℕ) (bs : List Bucket) (k : ℕ) (b : Bucket) → b ≡ get_or bs k b → k < length bs → AreBuckets S places bs → IsStrictlyIncreasing b.places.items
bucket_ascends S places bs k b at lt h = let x : IsBucket S places b = subst (IsBucket S places) (sym at) (h.each k b lt) in x.ascends

pub same_nothing : (v w : ℕ) → Nothing v w ↔ ⊥
same_nothing v w = (λ h. h, λ h. h)

-- lower numbers before higher ones
pub joined_ascends : (xs ys : List ℕ) (n : ℕ) → IsStrictlyIncreasing xs → IsStrictlyIncreasing ys → All (λ v. v < n) xs → All (λ v. n ≤ v) ys → IsStrictlyIncreasing (xs ++ ys)
joined_ascends xs ys n a b low high k lt =
    let long = length-append xs ys in
    elim (cases_lt (k + 1) (length xs)) [
      | inl within ↦
          let first : k < length xs = omega arith in
          let one = get_or-append xs ys 0 k first in
          let two = get_or-append xs ys 0 (k + 1) within in
          let less = a k within in
          omega arith
      | inr past ↦
          elim (cases_lt k (length xs)) [
            | inl first ↦
                let one = get_or-append xs ys 0 k first in
                let two = get_or-append_right xs ys (length xs) (k + 1) 0 refl past in
                let zero : (k + 1) - length xs ≡ 0 = omega arith in
                let under = low k 0 first in
                let there : 0 < length ys = omega arith in
                let over = high 0 0 there in
                let three : get_or (xs ++ ys) (k + 1) 0 ≡ get_or ys 0 0 = two ∙ ap (λ i. get_or ys i 0) zero in
                omega arith
            | inr beyond ↦
                let one = get_or-append_right xs ys (length xs) k 0 refl beyond in
                let two = get_or-append_right xs ys (length xs) (k + 1) 0 refl past in
                let i = k - length xs in
                let next : (k + 1) - length xs ≡ i + 1 = omega arith in
                let within : i + 1 < length ys = omega arith in
                let less = b i within in
                let three : get_or (xs ++ ys) (k + 1) 0 ≡ get_or ys (i + 1) 0 = two ∙ ap (λ j. get_or ys j 0) next in
                omega arith
          ]
    ]

no_text : {o : Option (List ℕ)} → is_some o ≡ false → (a : List ℕ) → o ≡ Some a → ⊥
no_text e a s = cc

held : {X : Type 0} {x y : X} → Some x ≡ Some y → x ≡ y
held e = cc

-- links in four kinds: of places that name no key identifier, to anchors, to holders that have none, and between equal ones
module _ (all : List Place) (n m : ℕ) (linked holders unnamed named everyone unowned members anchors : List ℕ)
    (low : All (λ v. v < n) linked) (high : All (λ v. n ≤ v) holders)
    (u : (v : ℕ) → Contains unnamed v ↔ (Contains linked v × (is_some (text_at Id all v) ≡ false)))
    (d : (v : ℕ) → Contains named v ↔ (Contains linked v × (is_some (text_at Id all v) ≡ true)))
    (o : (w : ℕ) → Contains unowned w ↔ ((Contains holders (n + w) × (is_some (text_at Id all (n + w)) ≡ false)) × (w < n)))
    (s : (w : ℕ) → Contains members w ↔ (Contains holders (n + w) × (w < n)))
    (e : everyone ≡ linked) (h : (a : ℕ) → Contains anchors a ↔ (Contains holders (n + n + a) × (a < m))) where
  abbrev pub Kinds : ℕ → ℕ → Type 0
  Kinds v w = (((Contains unnamed v × Contains members w) ⊎ (Contains everyone v × Contains {X = ℕ} [] w)) ⊎ (Contains named v × Contains unowned w)) ⊎ IsIdLink all n (linked ++ holders) v w

  abbrev pub AnchorKinds : ℕ → ℕ → Type 0
  AnchorKinds v a = (((Contains unnamed v × Contains {X = ℕ} [] a) ⊎ (Contains everyone v × Contains anchors a)) ⊎ (Contains named v × Contains {X = ℕ} [] a)) ⊎ ⊥

  in_linked : (v : ℕ) → v < n → Contains (linked ++ holders) v → Contains linked v
  in_linked v lt c = elim (Contains-append_cases linked holders v c) [ inl x ↦ x | inr x ↦ let over = All-contains (λ v. n ≤ v) holders v high x in absurd (omega arith) ]

  in_holders : (w : ℕ) → Contains (linked ++ holders) (n + w) → Contains holders (n + w)
  in_holders w c = elim (Contains-append_cases linked holders (n + w) c) [ inl x ↦ let under = All-contains (λ v. v < n) linked (n + w) low x in absurd (omega arith) | inr x ↦ x ]

  both_shown : (v w : ℕ) → IsPlaceLink all n linked holders v w → (p q : Option (List ℕ)) → text_at Id all v ≡ p → text_at Id all (n + w) ≡ q → Kinds v w
  both_shown v w l None q at to = inl (inl (inl ((u v).1 (l.0, ap is_some at), (s w).1 (l.1, l.2))))
  both_shown v w l (Some a) None at to = inl (inr ((d v).1 (l.0, ap is_some at), (o w).1 ((l.1, ap is_some to), l.2)))
  both_shown v w l (Some a) (Some b) at to =
      let same : a ≡ b = l.3 a b at to in
      inr (b, All-contains (λ v. v < n) linked v low l.0, l.2, (Contains-append_left linked holders v l.0, at ∙ ap Some same), (Contains-append_right linked holders (n + w) l.1, to))

  pub kinds_iff : (v w : ℕ) → Kinds v w ↔ IsPlaceLink all n linked holders v w
  kinds_iff v w = (
    λ k. elim k [
      | inl x ↦ elim x [
        | inl y ↦ elim y [
          | inl z ↦ let a = (u v).0 z.0 in let b = (s w).0 z.1 in (a.0, b.0, b.1, λ p q shows to. absurd (no_text a.1 p shows))
          | inr z ↦ absurd (none_in w z.1)
        ]
        | inr y ↦ let a = (d v).0 y.0 in let b = (o w).0 y.1 in (a.0, b.0.0, b.1, λ p q shows to. absurd (no_text b.0.1 q to))
      ]
      | inr x ↦ (in_linked v x.1 x.3.0, in_holders w x.4.0, x.2, λ p q shows to. held (sym shows ∙ x.3.1 ∙ sym x.4.1 ∙ to))
    ],
    λ l. both_shown v w l (text_at Id all v) (text_at Id all (n + w)) refl refl,
  )

  pub anchor_kinds_iff : (v a : ℕ) → AnchorKinds v a ↔ IsPlaceAnchor n m linked holders v a
  anchor_kinds_iff v a = (
    λ k. elim k [
      | inl x ↦ elim x [
        | inl y ↦ elim y [
          | inl z ↦ absurd (none_in a z.1)
          | inr z ↦ let b = (h a).0 z.1 in (subst (λ l. Contains l v) e z.0, b.0, b.1)
        ]
        | inr y ↦ absurd (none_in a y.1)
      ]
      | inr x ↦ absurd x
    ],
    λ l. inl (inl (inr (subst (λ l. Contains l v) (sym e) l.0, (h a).1 (l.1, l.2)))),
  )
