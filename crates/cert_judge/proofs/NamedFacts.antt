-- Links name by name and key by key.
use Rattle.std.specs.Prelude.{◌↔◌}
use Rattle.std.proofs.Common.{◌≡◌, ◌∙◌, ap, sym, subst, ℕ, ◌+◌, ◌<◌, Bool, List, [], ◌∷◌, ◌++◌, length, map, arith, get_or, inl, inr, Some, None, Bor}
use Rattle.std.specs.List.{Contains}
use Rattle.std.specs.List.Sorted.{IsStrictlyIncreasing}
use Rattle.std.proofs.lemmas.Bool.{cases_lt}
use Rattle.std.proofs.lemmas.List.{get_or-map, length-map}
use Rattle.std.proofs.lemmas.List.Elements.{Contains-append_left, Contains-push, Contains-push_cases}
use Rattle.std.proofs.lemmas.Option.{slice_get_past}
use Rattle.cert_graph.specs.declared.nodes.Group.{Group}
use Rattle.cert_graph.specs.declared.buckets.Bucket.{Bucket}
use Rattle.cert_graph.specs.declared.places.Place.{Place}
use Rattle.cert_graph.specs.declared.places.Part.TheVariants.{Name, Key}
use Rattle.cert_graph.specs.declared.places.Part.{Part}
use Rattle.cert_graph.specs.Places.{shown_at, Shows}
use Rattle.cert_graph.specs.Buckets.{IsBucket, AreBuckets}
use Rattle.cert_graph.specs.Links.{Adds}
use Rattle.cert_graph.proofs.Sifted.{push_ascends}
use Rattle.cert_graph.proofs.Adding.{UpTo, up_to_more, adds_then, adds_as}
use Rattle.cert_judge.specs.declared.judged.JudgedItem.{JudgedItem}
use Rattle.cert_judge.specs.Standing.{StandsBy, IsIssuedAt}
use Rattle.cert_judge.specs.Copies.{IsIn, AreCopies, AreIssuedRows, IsSided, IsLinkBy, IsAnchorBy, AreLinkable}
use Rattle.cert_judge.proofs.Copying.{issued_first}
use Rattle.cert_judge.specs.NamedLinks.{IsUnder, StandsUnder, IsIssuedFrom, Holds, IsNamedLink, IsNamedAnchor}
use Rattle.cert_judge.proofs.StandingFacts.{cert_mapped}

pub record AreBelow (k : ℕ) (xs : List ℕ) : Type 0 where
  pub ascends : IsStrictlyIncreasing xs
  pub exact : (v : ℕ) → Contains xs v ↔ (v < k)

pub below_none : AreBelow 0 []
below_none = record { ascends = λ k lt. absurd (omega arith); exact = λ v. (λ h. absurd (omega (arith, h.1)), λ lt. absurd (omega arith)) }

pub below_more : (k : ℕ) (xs : List ℕ) → AreBelow k xs → AreBelow (k + 1) (xs ++ k ∷ [])
below_more k xs h = record {
  ascends = push_ascends xs k h.ascends (λ u c. (h.exact u).0 c);
  exact = λ v. (
    λ c. elim (Contains-push_cases xs k v c) [ inl x ↦ let lt = (h.exact v).0 x in omega arith | inr e ↦ omega arith ],
    λ lt. elim (cases_lt v k) [
      | inl less ↦ Contains-append_left xs (k ∷ []) v ((h.exact v).1 less)
      | inr past ↦ let same : k ≡ v = omega arith in subst (Contains (xs ++ k ∷ [])) same (Contains-push xs k)
    ],
  );
}

-- a text is shown by a place that is there
nothing_shown : {q : List ℕ} → None ≡ Some q → ⊥
nothing_shown e = cc

pub shows_within : (part : Part) (all : List Place) (v : ℕ) (q : List ℕ) → Shows part all v q → v < length all
shows_within part all v q s = elim (cases_lt v (length all)) [
  | inl lt ↦ lt
  | inr past ↦ absurd (nothing_shown (subst (λ o. shown_at part o ≡ Some q) (slice_get_past all v past) s))
]

-- a bucket's name
abbrev pub IsBucketLink : (List ℕ → List ℕ → Type 0) → Bool → List JudgedItem → List Place → Bucket → ℕ → ℕ → Type 0
IsBucketLink V demand js all b = IsNamedLink V demand js all b.text.now

abbrev pub IsBucketAnchor : (List ℕ → List ℕ → Type 0) → Bool → List JudgedItem → List Place → ℕ → Bucket → ℕ → ℕ → Type 0
IsBucketAnchor V demand js all m b = IsNamedAnchor V demand js all m b.text.now

-- what was issued under a name is checked by the lists of that name
module _ (V : List ℕ → List ℕ → Type 0) (demand : Bool) (js : List JudgedItem) (all : List Place) (name : List ℕ) (issued : List ℕ) (under : (v : ℕ) → Contains issued v ↔ IsUnder js all name v) where
  stands_iff : (key serial : List ℕ) → StandsBy V demand js issued key serial ↔ StandsUnder V demand js all name key serial
  stands_iff key serial = (
    λ s. record { kept = λ p u a. s.kept (let c = (under p).1 u in (c.0, p, c.1, c.2, a)); listed = λ d. let l = s.listed d in (l.1, (under l.1).0 (l.0, l.2, l.3), l.4) },
    λ s. record { kept = λ x. s.kept x.1 ((under x.1).0 (x.0, x.2, x.3)) x.4; listed = λ d. let l = s.listed d in let c = (under l.0).1 l.1 in (c.0, l.0, c.1, c.2, l.2) },
  )

  pub issued_from : (key : List ℕ) (v : ℕ) → (Contains issued v × IsIssuedAt V demand js issued key v) ↔ IsIssuedFrom V demand js all name key v
  issued_from key v = (
    λ h. ((under v).0 h.0, (h.1.0, λ d. cert_mapped _ _ (λ c x. (x.0, (stands_iff key c.serial.now).0 x.1)) (get_or js v d) (h.1.1 d))),
    λ h. ((under v).1 h.0, (h.1.0, λ d. cert_mapped _ _ (λ c x. (x.0, (stands_iff key c.serial.now).1 x.1)) (get_or js v d) (h.1.1 d))),
  )

bucket_in : (bs : List Bucket) (k : ℕ) → k < length bs → Bucket
bucket_in [] k lt = absurd (omega arith)
bucket_in (b ∷ bs) k lt = b

-- the links of a name, by rows for its keys
module _ (V : List ℕ → List ℕ → Type 0) (demand : Bool) (js : List JudgedItem) (all : List Place) (m : ℕ) (name places issued : List ℕ) (named : (v : ℕ) → Contains places v ↔ Shows Name all v name) (under : (v : ℕ) → Contains issued v ↔ IsUnder js all name v)
    (bs : List Bucket) (buckets : AreBuckets (Shows Key all) places bs) (keys : List (Bor (List ℕ))) (keys_are : keys ≡ map (λ b. b.text) bs) (holders : List (List ℕ)) (holders_are : holders ≡ map (λ b. b.places.items) bs) where
  key_at : (k : ℕ) (b : Bucket) (o : Bor (List ℕ)) → k < length bs → get_or keys k o ≡ (get_or bs k b).text
  key_at k b o lt = ap (λ l. get_or l k o) keys_are ∙ get_or-map (λ (x : Bucket). x.text) bs k b o lt

  holder_at : (k : ℕ) (b : Bucket) (d : List ℕ) → k < length bs → get_or holders k d ≡ (get_or bs k b).places.items
  holder_at k b d lt = ap (λ l. get_or l k d) holders_are ∙ get_or-map (λ (x : Bucket). x.places.items) bs k b d lt

  holder_count : length holders ≡ length bs
  holder_count = ap length holders_are ∙ length-map bs (λ (x : Bucket). x.places.items)

  key_count : length keys ≡ length bs
  key_count = ap length keys_are ∙ length-map bs (λ (x : Bucket). x.text)

  held : (k : ℕ) (b : Bucket) → k < length bs → (p : ℕ) → IsIn holders k p ↔ Holds all name (get_or bs k b).text.now p
  held k b lt p =
      let e = (buckets.each k b lt).exact p in
      let n = holder_count in
      let small : k < length holders = omega arith in (
        λ c. let x = e.0 (subst (λ z. Contains z p) (holder_at k b [] lt) (c.1 [])) in ((named p).0 x.0, x.1),
        λ x. (small, λ d. subst (λ z. Contains z p) (sym (holder_at k b d lt)) (e.1 ((named p).1 x.0, x.1))),
      )

  module _ (firsts : List ℕ) (lists rows : List (List ℕ)) (copies : AreCopies js issued firsts lists) (issues : AreIssuedRows V demand js firsts keys rows) where
    pub sided_named : (v p : ℕ) → IsSided rows lists holders v p ↔ ((key : List ℕ) × IsIssuedFrom V demand js all name key v × Holds all name key p)
    sided_named v p = (
      λ h.
          let lt = h.4.0 in
          let n = holder_count in
          let c = key_count in
          let within : h.0 < length bs = omega arith in
          let within2 : h.0 < length keys = omega arith in
          let b = bucket_in bs h.0 within in
          let o = b.text in
          let i = ((issues.each h.0 h.1 o within2).0 h.2).1 in
          let there = (issued_first V demand js issued firsts lists copies (get_or keys h.0 o).now h.1 v h.3).1 i in
          let from = (issued_from V demand js all name issued under (get_or keys h.0 o).now v).0 (copies.within h.1 v h.3, there) in
          ((get_or bs h.0 b).text.now, subst (λ (t : Bor (List ℕ)). IsIssuedFrom V demand js all name t.now v) (key_at h.0 b o within) from, (held h.0 b within p).0 h.4),
      λ x.
          let key = x.0 in
          let some = buckets.complete p key ((named p).1 x.2.0) x.2.1 in
          let k = some.0 in
          let b = some.1 in
          let within = some.2 in
          let c = key_count in
          let within2 : k < length keys = omega arith in
          let is : (get_or bs k b).text.now ≡ key = ap (λ (y : Bucket). y.text.now) some.3 ∙ some.4 in
          let from = (issued_from V demand js all name issued under key v).1 x.1 in
          let one = copies.complete v from.0 in
          let there = (issued_first V demand js issued firsts lists copies key one.0 v one.1).0 from.1 in
          let count = copies.count in
          let low = one.1.0 in
          let small : one.0 < length firsts = omega arith in
          let o = b.text in
          let at : key ≡ (get_or keys k o).now = sym is ∙ ap (λ (t : Bor (List ℕ)). t.now) (sym (key_at k b o within)) in
          (k, one.0, (issues.each k one.0 o within2).1 (small, subst (λ z. IsIssuedAt V demand js firsts z (get_or firsts one.0 0)) at there), one.1, (held k b within p).1 (subst (λ z. Holds all name z p) (sym is) x.2)),
    )

    pub all_named : (v w : ℕ) → IsLinkBy (IsSided rows lists holders) all (length js) v w ↔ IsNamedLink V demand js all name v w
    all_named v w = (
      λ h. let x = (sided_named v (length js + w)).0 h.0 in (x.0, x.1, x.2, h.1, h.2),
      λ h. ((sided_named v (length js + w)).1 (h.0, h.1, h.2), h.3, h.4),
    )

    pub all_named_anchors : (v a : ℕ) → IsAnchorBy (IsSided rows lists holders) (length js) m v a ↔ IsNamedAnchor V demand js all m name v a
    all_named_anchors v a = (
      λ h. let x = (sided_named v (length js + length js + a)).0 h.0 in (x.0, x.1, x.2, h.1),
      λ h. ((sided_named v (length js + length js + a)).1 (h.0, h.1, h.2), h.3),
    )

    pub linkable : ((v : ℕ) (key : List ℕ) → v < length js → Shows Key all v key → ⊥) → AreLinkable (length js) lists holders
    linkable keyless = record {
      copies_ascend = copies.ascend;
      copies_within = λ d v x. ((under v).0 (copies.within d v x)).0;
      holders_ascend = λ k lt.
          let n = holder_count in
          let within : k < length bs = omega arith in
          let b = bucket_in bs k within in
          subst IsStrictlyIncreasing (sym (holder_at k b [] within)) (buckets.each k b within).ascends;
      holders_behind = λ k p x.
          let lt = x.0 in
          let n = holder_count in
          let within : k < length bs = omega arith in
          let b = bucket_in bs k within in
          elim (cases_lt p (length js)) [
            | inl low ↦ absurd (keyless p (get_or bs k b).text.now low ((held k b within p).0 x).1)
            | inr high ↦ omega arith
          ];
    }

-- the links of one more name
pub name_more : (V : List ℕ → List ℕ → Type 0) (demand : Bool) (js : List JudgedItem) (all : List Place) (m : ℕ) (old mid new : List Group) (bs : List Bucket) (k : ℕ) (b : Bucket) → b ≡ get_or bs k b → k < length bs
    → Adds (length js) old mid (UpTo (IsBucketLink V demand js all) bs k) (UpTo (IsBucketAnchor V demand js all m) bs k) → Adds (length js) mid new (IsNamedLink V demand js all b.text.now) (IsNamedAnchor V demand js all m b.text.now)
    → Adds (length js) old new (UpTo (IsBucketLink V demand js all) bs (k + 1)) (UpTo (IsBucketAnchor V demand js all m) bs (k + 1))
name_more V demand js all m old mid new bs k b at lt before more =
    adds_as (length js) old new _ _ _ _ (adds_then (length js) old mid new _ _ _ _ before more) (up_to_more (IsBucketLink V demand js all) bs k b at lt) (up_to_more (IsBucketAnchor V demand js all m) bs k b at lt)

-- each place that shows a name is in a bucket
module _ (V : List ℕ → List ℕ → Type 0) (demand : Bool) (js : List JudgedItem) (all : List Place) (m : ℕ) (chosen : List ℕ) (whole : (v : ℕ) → Contains chosen v ↔ (v < length all)) where
  pub named_by : (b : Bucket) → IsBucket (Shows Name all) chosen b → (v : ℕ) → Contains b.places.items v ↔ Shows Name all v b.text.now
  named_by b h v = (λ c. ((h.exact v).0 c).1, λ s. (h.exact v).1 ((whole v).1 (shows_within Name all v b.text.now s), s))

  pub all_names : (bs : List Bucket) (k : ℕ) → AreBuckets (Shows Name all) chosen bs → k ≡ length bs → (v w : ℕ) → UpTo (IsBucketLink V demand js all) bs k v w ↔ ((name : List ℕ) × IsNamedLink V demand js all name v w)
  all_names bs k are end v w = (
    λ u. (u.1.text.now, u.4),
    λ l.
        let s = l.1.2.0 in
        let b = are.complete (length js + w) l.0 ((whole (length js + w)).1 (shows_within Name all (length js + w) l.0 s)) s in
        let lt = b.2 in
        (b.0, b.1, omega arith, b.3, subst (λ name. IsNamedLink V demand js all name v w) (sym b.4) l.1),
  )

  pub all_anchor_names : (bs : List Bucket) (k : ℕ) → AreBuckets (Shows Name all) chosen bs → k ≡ length bs → (v a : ℕ) → UpTo (IsBucketAnchor V demand js all m) bs k v a ↔ ((name : List ℕ) × IsNamedAnchor V demand js all m name v a)
  all_anchor_names bs k are end v a = (
    λ u. (u.1.text.now, u.4),
    λ l.
        let s = l.1.2.0 in
        let p = length js + length js + a in
        let b = are.complete p l.0 ((whole p).1 (shows_within Name all p l.0 s)) s in
        let lt = b.2 in
        (b.0, b.1, omega arith, b.3, subst (λ name. IsNamedAnchor V demand js all m name v a) (sym b.4) l.1),
  )

added_none : (v : ℕ) → 0 + v ≡ v
added_none v = omega arith

-- of a name's places, those of what was issued
pub under_from : (js : List JudgedItem) (all : List Place) (name places issued : List ℕ) → ((v : ℕ) → Contains places v ↔ Shows Name all v name)
    → ((v : ℕ) → Contains issued v ↔ (Contains places (0 + v) × (v < length js))) → (v : ℕ) → Contains issued v ↔ IsUnder js all name v
under_from js all name places issued named exact v = (
  λ c. let x = (exact v).0 c in (x.1, (named v).0 (subst (Contains places) (added_none v) x.0)),
  λ u. (exact v).1 (subst (Contains places) (sym (added_none v)) ((named v).1 u.1), u.0),
)

pub bucket_at : (S : ℕ → List ℕ → Type 0) (places : List ℕ) (bs : List Bucket) (k : ℕ) (b : Bucket) → b ≡ get_or bs k b → k < length bs → AreBuckets S places bs → IsBucket S places b
bucket_at S places bs k b at lt h = subst (IsBucket S places) (sym at) (h.each k b lt)

-- buckets through references
pub buckets_of : (part : Part) (all all' : List Place) (chosen chosen' : List ℕ) (bs bs' : List Bucket) → all ≡ all' → chosen ≡ chosen' → bs' ≡ bs → AreBuckets (Shows part all) chosen bs → AreBuckets (Shows part all') chosen' bs'
buckets_of part all all' chosen chosen' bs bs' a c b h = subst (AreBuckets (Shows part all') chosen') (sym b) (subst (λ l. AreBuckets (Shows part all') l bs) c (subst (λ z. AreBuckets (Shows part z) chosen bs) a h))
