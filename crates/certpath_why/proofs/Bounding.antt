-- Issuers whose path length prevents a path.
use Rattle.std.specs.Prelude.{◌↔◌, ◌⊎◌}
use Rattle.std.proofs.Common.{◌≡◌, ◌≢◌, ◌∙◌, sym, subst, refl, ℕ, ◌+◌, ◌<◌, ◌≤◌, Bool, List, [], ◌∷◌, ◌++◌, length, map, take, get_or, arith, inl, inr}
use Rattle.std.specs.List.{Contains}
use Rattle.std.proofs.lemmas.List.{take_more, take_all}
use Rattle.std.proofs.lemmas.List.Elements.{Contains-append_left, Contains-push, Contains-push_cases}
use Rattle.cert_graph.specs.Entries.{IsAt}
use Rattle.cert_graph.specs.declared.reach.Reach.{Reach}
use Rattle.cert_graph.specs.declared.reach.Reach.TheVariants.{No, UpTo}
use Rattle.cert_graph.proofs.PlacesOfNodes.{element_at}
use Rattle.cert_model.specs.Octets.{name_octets}
use Rattle.cert_judge.specs.declared.items.CertificateItem.{CertificateItem}
use Rattle.cert_judge.specs.declared.items.ReadItem.{ReadItem}
use Rattle.cert_judge.specs.declared.items.ReadItem.TheVariants.{Certificate as certificate_read}
use Rattle.cert_judge.specs.Items.{item_of}
use Rattle.cert_judge.specs.ItemGraph.{IsLink}
use Rattle.cert_judge.specs.Revoking.{Item, JudgingContext}
use Rattle.certpath_why.specs.Bounds.{IsCounted, IsHeldBack, IsBound}
use Rattle.certpath_why.specs.Found.{IsMarked, AreMarked}
use Rattle.certpath_why.specs.Held.{HoldsBack}
use Rattle.certpath_why.specs.Reached.{ArePositions, IsFurther}
use Rattle.certpath_why.proofs.Items.{at_read, with_read}

-- ---- marks of the places with a property

pub marks_none : (P : ℕ → Type 0) (marks : List Bool) → ((u : ℕ) → P u → ⊥) → AreMarked P marks marks
marks_none P marks never = record { count = refl; exact = λ u. (λ m. inl m, λ s. elim s [ inl m ↦ m | inr p ↦ absurd (never u p) ]) }

pub marks_as : (P Q : ℕ → Type 0) (old new : List Bool) → ((u : ℕ) → P u ↔ Q u) → AreMarked P old new → AreMarked Q old new
marks_as P Q old new iff h = record {
  count = h.count;
  exact = λ u. (
    λ m. elim ((h.exact u).0 m) [ inl was ↦ inl was | inr p ↦ inr ((iff u).0 p) ],
    λ s. (h.exact u).1 (elim s [ inl was ↦ inl was | inr q ↦ inr ((iff u).1 q) ]),
  );
}

-- the first so many, and one more
first_more : (xs : List ℕ) (k : ℕ) → k < length xs → (u : ℕ) → Contains (take (k + 1) xs) u ↔ (Contains (take k xs) u ⊎ (get_or xs k 0 ≡ u))
first_more xs k lt u =
    let longer = take_more xs k 0 lt in (
      λ c. Contains-push_cases (take k xs) (get_or xs k 0) u (subst (λ l. Contains l u) longer c),
      λ s. subst (λ l. Contains l u) (sym longer) (elim s [
        | inl c ↦ Contains-append_left (take k xs) (get_or xs k 0 ∷ []) u c
        | inr e ↦ subst (Contains (take k xs ++ get_or xs k 0 ∷ [])) e (Contains-push (take k xs) (get_or xs k 0))
      ]),
    )

-- those of some places
module _ (xs : List ℕ) where
  pub all_none : (marks : List Bool) → AreMarked (Contains (take 0 xs)) marks marks
  all_none marks = marks_none (Contains (take 0 xs)) marks (λ u p. omega (arith, p.1))

  pub all_more : (k : ℕ) (old new last : List Bool) → k < length xs → AreMarked (Contains (take k xs)) old new
      → length last ≡ length new → ((u : ℕ) → IsMarked last u ↔ (IsMarked new u ⊎ (u ≡ get_or xs k 0))) → AreMarked (Contains (take (k + 1) xs)) old last
  all_more k old new last lt h count put = record {
    count = count ∙ h.count;
    exact = λ u. let more = first_more xs k lt u in (
      λ m. elim ((put u).0 m) [
        | inl there ↦ elim ((h.exact u).0 there) [ inl was ↦ inl was | inr p ↦ inr (more.1 (inl p)) ]
        | inr e ↦ inr (more.1 (inr (sym e)))
      ],
      λ s. (put u).1 (elim s [
        | inl was ↦ inl ((h.exact u).1 (inl was))
        | inr p ↦ elim (more.0 p) [ inl c ↦ inl ((h.exact u).1 (inr c)) | inr e ↦ inr (sym e) ]
      ]),
    );
  }

  pub all_whole : (k : ℕ) (old new : List Bool) → length xs ≤ k → AreMarked (Contains (take k xs)) old new → AreMarked (Contains xs) old new
  all_whole k old new le h = subst (λ l. AreMarked (Contains l) old new) (take_all k xs le) h

-- those that are related to one of some places
module _ (R : ℕ → ℕ → Type 0) (ws : List ℕ) where
  pub of_none : (marks : List Bool) → AreMarked (λ u. (w : ℕ) × Contains (take 0 ws) w × R w u) marks marks
  of_none marks = marks_none (λ u. (w : ℕ) × Contains (take 0 ws) w × R w u) marks (λ u p. omega (arith, p.1.1))

  pub of_more : (k : ℕ) (old new last : List Bool) → k < length ws → AreMarked (λ u. (w : ℕ) × Contains (take k ws) w × R w u) old new → AreMarked (R (get_or ws k 0)) new last
      → AreMarked (λ u. (w : ℕ) × Contains (take (k + 1) ws) w × R w u) old last
  of_more k old new last lt h one = record {
    count = one.count ∙ h.count;
    exact = λ u. (
      λ m. elim ((one.exact u).0 m) [
        | inl there ↦ elim ((h.exact u).0 there) [ inl was ↦ inl was | inr p ↦ inr (p.0, (first_more ws k lt p.0).1 (inl p.1), p.2) ]
        | inr q ↦ inr (get_or ws k 0, (first_more ws k lt (get_or ws k 0)).1 (inr refl), q)
      ],
      λ s. (one.exact u).1 (elim s [
        | inl was ↦ inl ((h.exact u).1 (inl was))
        | inr p ↦ elim ((first_more ws k lt p.0).0 p.1) [
          | inl c ↦ inl ((h.exact u).1 (inr (p.0, c, p.2)))
          | inr e ↦ inr (subst (λ w. R w u) (sym e) p.2)
        ]
      ]),
    );
  }

  pub of_all : (k : ℕ) (old new : List Bool) → length ws ≤ k → ((u : ℕ) → IsMarked old u → ⊥) → AreMarked (λ u. (w : ℕ) × Contains (take k ws) w × R w u) old new
      → (v : ℕ) → IsMarked new v ↔ ((w : ℕ) × Contains ws w × R w v)
  of_all k old new le none h v =
      let whole = take_all k ws le in (
        λ m. elim ((h.exact v).0 m) [ inl was ↦ absurd (none v was) | inr p ↦ (p.0, subst (λ l. Contains l p.0) whole p.1, p.2) ],
        λ p. (h.exact v).1 (inr (p.0, subst (λ l. Contains l p.0) (sym whole) p.1, p.2)),
      )

-- ---- who is held back

-- the code's names are those of the definitions
pub counted_iff : (items : List ReadItem) (w : ℕ) (x : CertificateItem) → IsAt items w (λ y. y ≡ certificate_read x) → (x.subject.now ≢ x.issuer.now) ↔ IsCounted (map item_of items) w
counted_iff items w x at =
    let with = with_read (λ c. name_octets c.subject ≢ name_octets c.issuer) items w x at in (
      λ n. with.0 (λ e. n (x.subject_is ∙ e ∙ sym x.issuer_is)),
      λ h e. with.1 h (sym x.subject_is ∙ e ∙ x.issuer_is),
    )

pub not_counted : (r : JudgingContext) (items : List ReadItem) (reach : ℕ → Reach) (w : ℕ) (x : CertificateItem) → IsAt items w (λ y. y ≡ certificate_read x) → ((x.subject.now ≢ x.issuer.now) → ⊥)
    → (v : ℕ) → IsHeldBack r (map item_of items) reach w v → ⊥
not_counted r items reach w x at never v h = never ((counted_iff items w x at).1 h.counts)

pub held_iff : (r : JudgingContext) (read : List ReadItem) (reach : ℕ → Reach) (w : ℕ) (x : CertificateItem) → IsAt read w (λ y. y ≡ certificate_read x) → reach w ≡ No → (x.subject.now ≢ x.issuer.now)
    → (v : ℕ) → HoldsBack r (map item_of read) reach x v ↔ IsHeldBack r (map item_of read) reach w v
held_iff r read reach w x at nowhere counts v =
    let items = map item_of read in
    let linked = at_read (λ z. IsAt items v (IsLink r items z)) read w x at in (
      λ p. record {
        leads_nowhere = nowhere;
        counts = (counted_iff read w x at).0 counts;
        linked = linked.0 p.1;
        bounded = p.0;
      },
      λ h. (h.bounded, linked.1 h.linked),
    )

pub bound_iff : (r : JudgingContext) (items : List Item) (target : ℕ) (reach : ℕ → Reach) (marks : List Bool) (further : List ℕ) → ArePositions (IsFurther items target) further
    → ((v : ℕ) → IsMarked marks v ↔ ((w : ℕ) × Contains further w × IsHeldBack r items reach w v)) → (v : ℕ) → (IsMarked marks v × (v ≢ target)) ↔ IsBound r items target reach v
bound_iff r items target reach marks further are marked v = (
  λ m. let p = (marked v).0 m.0 in ((p.0, (are.exact p.0).0 p.1, p.2), m.1),
  λ b. ((marked v).1 (b.0.0, (are.exact b.0.0).1 b.0.1, b.0.2), b.1),
)

-- who holds back is an item
pub held_below : (r : JudgingContext) (items : List Item) (reach : ℕ → Reach) (w v : ℕ) → IsHeldBack r items reach w v → v < length items
held_below r items reach w v h = let x = element_at items w h.linked.0 in (h.linked.1 x.0).0

-- where nobody leads to an anchor with nothing below it, nobody is held back
pub no_bound : (r : JudgingContext) (items : List Item) (reach : ℕ → Reach) (marks : List Bool) (further : List ℕ) → ((u : ℕ) → IsMarked marks u → ⊥) → (((v : ℕ) × (v < length items) × (reach v ≡ UpTo 0)) → ⊥)
    → (v : ℕ) → IsMarked marks v ↔ ((w : ℕ) × Contains further w × IsHeldBack r items reach w v)
no_bound r items reach marks further none never v = (λ m. absurd (none v m), λ p. absurd (never (v, held_below r items reach p.0 v p.2, p.2.bounded)))
