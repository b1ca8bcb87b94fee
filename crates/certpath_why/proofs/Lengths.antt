-- Path lengths that prevent a path.
use Rattle.std.specs.Prelude.{◌↔◌, ◌⊎◌, if◌then◌else◌}
use Rattle.std.proofs.Common.{◌≡◌, ◌≢◌, ◌∙◌, ap, sym, subst, refl, ℕ, zero, suc, ◌+◌, ◌<◌, Bool, true, false, cond, List, [], ◌∷◌, length, get_or, arith, inl, inr}
use Rattle.std.specs.List.{Contains}
use Rattle.std.proofs.lemmas.Bool.{cases_eq, false≢true}
use Rattle.std.proofs.lemmas.List.{get_or-map}
use Rattle.std.proofs.lemmas.Slice.Eq.{bytes_eq-Decides}
use Rattle.cert_graph.specs.declared.reach.Reach.{Reach}
use Rattle.cert_graph.specs.declared.reach.Reach.TheVariants.{No, UpTo, Any}
use Rattle.cert_graph.specs.declared.answer.Answer.{Answer}
use Rattle.cert_graph.specs.declared.answer.Answer.TheVariants.{Path, NoPath, NoTarget}
use Rattle.cert_graph.specs.declared.answer.Table.{Table}
use Rattle.cert_graph.specs.Adequate.{at_row, row_of, rows_of, HasAnchored, HasAnchoredAt, IsSuccessor, IsAdequate}
use Rattle.cert_graph.specs.Graph.{Graph, IsValidPath}
use Rattle.cert_graph.specs.Reach.{IsAtMost, lesser, less_one}
use Rattle.cert_graph.specs.Steps.{one_of, Tail, FromTarget}
use Rattle.cert_graph.proofs.Tails.{tail_fit}
use Rattle.cert_graph.proofs.True.{from_valid, adequate_is_true}
use Rattle.cert_model.specs.Class.{Class, certificate}
use Rattle.cert_model.specs.Fields.{Certificate}
use Rattle.cert_model.specs.Octets.{name_octets}
use Rattle.cert_judge.specs.ItemGraph.{self_issued_of, limit_of, graph_of_items}
use Rattle.cert_judge.specs.Revoking.{Item, JudgingContext}
use Rattle.cert_judge.proofs.Grouping.{element, one_certificate}
use Rattle.certpath_why.specs.Bounds.{reach_by, IsCounted, IsBound}
use Rattle.certpath_why.specs.Laws.{without_lengths, IsUncountedPath, IsFreePath}
use Rattle.certpath_why.specs.Reached.{IsCertificateAt, IsIssuerByName, IsReached}
use Rattle.certpath_why.proofs.Spreading.{reached_more}

-- ---- reaches

is_no : (s : Reach) → (s ≡ No) ⊎ (s ≡ No → ⊥)
is_no No = inl refl
is_no (UpTo n) = inr (λ e. cc)
is_no Any = inr (λ e. cc)

below_no : (x : Reach) → IsAtMost x No → x ≡ No
below_no No h = refl
below_no (UpTo m) h = absurd h
below_no Any h = absurd h

at_most_no : (x s : Reach) → s ≡ No → IsAtMost x s → x ≡ No
at_most_no x s e h = below_no x (subst (IsAtMost x) e h)

lesser_no : (l p : Reach) → (l ≡ No → ⊥) → lesser l p ≡ No → p ≡ No
lesser_no No p some e = absurd (some refl)
lesser_no (UpTo m) No some e = refl
lesser_no (UpTo m) (UpTo n) some e = absurd (cc)
lesser_no (UpTo m) Any some e = absurd (cc)
lesser_no Any p some e = e

less_one_no : (s : Reach) → (s ≡ No → ⊥) → less_one s ≡ No → s ≡ UpTo 0
less_one_no No some e = absurd (some refl)
less_one_no (UpTo zero) some e = refl
less_one_no (UpTo (suc n)) some e = absurd (cc)
less_one_no Any some e = absurd (cc)

-- nothing is passed on of some reach: the certificate counts, and none may be below
passed_no : (b : Bool) (s : Reach) → (s ≡ No → ⊥) → cond b s (less_one s) ≡ No → (b ≡ false) × (s ≡ UpTo 0)
passed_no true s some e = absurd (some e)
passed_no false s some e = (refl, less_one_no s some e)

limit_held : (g : Graph) (row : List Reach) (v a : ℕ) → HasAnchored g row → g.Fit v → g.AnchorEdge v a → IsAtMost (g.limit v) (at_row row v)
unfolding HasAnchoredAt
limit_held g row v a anchored fit edge = anchored v a fit edge

-- ---- lists

parted : (x : ℕ) (xs : List ℕ) (u : ℕ) → Contains (x ∷ xs) u → (x ≡ u) ⊎ Contains xs u
parted x xs u (zero, lt, is) = inl is
parted x xs u (suc k, lt, is) = inr (k, (let less : k < length xs = omega (arith, lt) in less), is)

later : (x : ℕ) (xs : List ℕ) (u : ℕ) → Contains xs u → Contains (x ∷ xs) u
later x xs u h = let lt = h.1 in (suc h.0, (let next : suc h.0 < length (x ∷ xs) = omega arith in next), h.2)

first : (x : ℕ) (xs : List ℕ) → Contains (x ∷ xs) x
first x xs = (0, (let lt : 0 < length (x ∷ xs) = omega arith in lt), refl)

-- ---- items

either_limit : (b : Bool) (n : ℕ) → (if b then UpTo n else Any) ≡ No → ⊥
either_limit true n e = cc
either_limit false n e = cc

some_limit : (k : Class) (c : Certificate) → k ≡ certificate c → limit_of k ≡ No → ⊥
some_limit k c is e = either_limit _ _ (sym (ap limit_of is) ∙ e)

differs : (k : Class) (c : Certificate) → k ≡ certificate c → self_issued_of k ≡ false → name_octets c.subject ≢ name_octets c.issuer
differs k c is e same = false≢true (sym e ∙ ap self_issued_of is ∙ (bytes_eq-Decides (name_octets c.subject) (name_octets c.issuer)).1 same)

module _ (r : JudgingContext) (items anchors : List Item) where
  abbrev G : Graph
  G = graph_of_items r items anchors

  -- a fit certificate has a limit
  has_limit : (v : ℕ) → G.Fit v → G.limit v ≡ No → ⊥
  has_limit v fit e =
      let x = element items v fit.0 in
      let c = fit.1 x.0 in
      some_limit (get_or items v x.0).class c.0 c.1 (sym (get_or-map (λ (y : Item). limit_of y.class) items v x.0 No fit.0) ∙ e)

  counts : (v : ℕ) → IsCertificateAt items v → G.self_issued v ≡ false → IsCounted items v
  counts v is e = (
    is.0,
    λ d.
        let c = is.1 d in
        (c.0, c.1, differs (get_or items v d).class c.0 c.1 (sym (get_or-map (λ (y : Item). self_issued_of y.class) items v d false is.0) ∙ e)),
  )

  -- a link leads to an issuer by name
  by_name : (v w : ℕ) → G.Edge v w → IsIssuerByName items v w
  by_name v w edge = (
    edge.0,
    λ d.
        let there = edge.1 d in
        let one = there.1 d in (
          one.0,
          one.1,
          (
            there.0,
            λ e.
                let two = there.1 e in
                let same : two.0 ≡ one.0 = one_certificate (get_or items v d).class two.0 one.0 two.1 one.1 in
                (two.2.0, two.2.1, sym two.2.2.0.issuer ∙ ap (λ (c : Certificate). name_octets c.issuer) same),
          ),
        ),
  )

  linked_certificate : (v w : ℕ) → G.Edge v w → IsCertificateAt items v
  linked_certificate v w edge = let h = by_name v w edge in (h.0, λ d. let x = h.1 d in (x.0, x.1, tt))

  module _ (target : ℕ) where
    from_start : (w : ℕ) → G.Edge target w → IsReached items target w
    from_start w edge = reached_more items target target w (0, (linked_certificate target w edge, refl)) (by_name target w edge)

    -- ---- all of a path is reached

    tail_reached : (ps : List ℕ) (c v a : ℕ) → IsReached items target v → Tail (without_lengths G) c v ps a → (u : ℕ) → Contains (v ∷ ps) u → IsReached items target u
    tail_reached [] c v a at t u h = elim (parted v [] u h) [ inl e ↦ subst (IsReached items target) e at | inr n ↦ absurd (omega (arith, n.1)) ]
    tail_reached (w ∷ ps) c v a at t u h = elim (parted v (w ∷ ps) u h) [
      | inl e ↦ subst (IsReached items target) e at
      | inr rest ↦ tail_reached ps (c + one_of (without_lengths G) v) w a (reached_more items target v w at (by_name v w t.2)) t.3 u rest
    ]

    usable_certificate : (v : ℕ) → G.Usable v → IsCertificateAt items v
    usable_certificate v h = (h.0, λ d. let x = h.1 d in (x.0, x.1, tt))

    from_reached : (issuers : List ℕ) (a : ℕ) → FromTarget (without_lengths G) target issuers a → (u : ℕ) → Contains (target ∷ issuers) u → IsReached items target u
    from_reached [] a t u h = elim (parted target [] u h) [ inl e ↦ (0, (usable_certificate target t.0, e)) | inr n ↦ absurd (omega (arith, n.1)) ]
    from_reached (w ∷ ps) a t u h = elim (parted target (w ∷ ps) u h) [
      | inl e ↦ (0, (usable_certificate target t.0, e))
      | inr rest ↦ tail_reached ps 0 w a (from_start w t.1) t.2 u rest
    ]

    pub all_reached : (ps : List ℕ) (a v : ℕ) → IsUncountedPath r items anchors target ps a → Contains ps v → IsReached items target v
    all_reached ps a v p h = from_reached p.issuers a (from_valid (without_lengths G) target ps a p) v (subst (λ l. Contains l v) p.starts h)

    -- ---- where a path length prevents a path

    module _ (row : List Reach) (anchored : HasAnchored G row) (fixed : IsSuccessor G row row) (alone : (b : ℕ) → G.AnchorEdge target b → ⊥) (shut : (w : ℕ) → G.Fit w → G.Edge target w → at_row row w ≡ No) where
      abbrev Found : List ℕ → Type 0
      Found ps = (u : ℕ) × Contains ps u × IsBound r items target (at_row row) u

      -- a fit certificate under an anchor leads to it
      not_anchored : (v a : ℕ) → G.Fit v → G.AnchorEdge v a → at_row row v ≡ No → ⊥
      not_anchored v a fit edge lost = has_limit v fit (at_most_no (G.limit v) (at_row row v) lost (limit_held G row v a anchored fit edge))

      -- an issuer that leads to an anchor, and from which one that doesn't is linked
      step : (v w : ℕ) → G.Fit v → G.Fit w → G.Edge v w → at_row row v ≡ No → IsReached items target v → (at_row row w ≡ No) ⊎ ((w ≡ target) ⊎ IsBound r items target (at_row row) w)
      step v w fit fits edge lost at = elim (is_no (at_row row w)) [
        | inl e ↦ inl e
        | inr some ↦ inr (elim (cases_eq w target) [
          | inl e ↦ inl e
          | inr other ↦
              let none = lesser_no (G.limit v) (cond (G.self_issued v) (at_row row w) (less_one (at_row row w))) (has_limit v fit) (at_most_no _ (at_row row v) lost (fixed v w fit fits edge)) in
              let passed = passed_no (G.self_issued v) (at_row row w) some none in
              let apart : v ≢ target = λ e. some (shut w fits (subst (λ z. G.Edge z w) e edge)) in
              inr (
                (
                  v,
                  (at, apart),
                  record {
                    leads_nowhere = lost;
                    counts = counts v (linked_certificate v w edge) passed.0;
                    linked = edge;
                    bounded = passed.1;
                  },
                ),
                other,
              )
        ])
      ]

      walk : (ps : List ℕ) (c v a : ℕ) → at_row row v ≡ No → IsReached items target v → Tail (without_lengths G) c v ps a → Found (v ∷ ps)
      walk [] c v a lost at t = absurd (not_anchored v a t.0 t.2 lost)
      walk (w ∷ []) c v a lost at t = elim (step v w t.0 t.3.0 t.2 lost at) [
        | inl none ↦ absurd (not_anchored w a t.3.0 t.3.2 none)
        | inr more ↦ elim more [
          | inl e ↦ absurd (alone a (subst (λ z. G.AnchorEdge z a) e t.3.2))
          | inr b ↦ (w, later v (w ∷ []) w (first w []), b)
        ]
      ]
      walk (w ∷ x ∷ ps) c v a lost at t = elim (step v w t.0 t.3.0 t.2 lost at) [
        | inl none ↦
            let f = walk (x ∷ ps) (c + one_of (without_lengths G) v) w a none (reached_more items target v w at (by_name v w t.2)) t.3 in
            (f.0, later v (w ∷ x ∷ ps) f.0 f.1, f.2)
        | inr more ↦ elim more [
          | inl e ↦
              let edge : G.Edge target x = subst (λ z. G.Edge z x) e t.3.2 in
              let fit = tail_fit (without_lengths G) (c + one_of (without_lengths G) v + one_of (without_lengths G) w) x ps a t.3.3 in
              let f = walk ps (c + one_of (without_lengths G) v + one_of (without_lengths G) w) x a (shut x fit edge) (from_start x edge) t.3.3 in
              (f.0, later v (w ∷ x ∷ ps) f.0 (later w (x ∷ ps) f.0 f.1), f.2)
          | inr b ↦ (w, later v (w ∷ x ∷ ps) w (first w (x ∷ ps)), b)
        ]
      ]

      found_from : (issuers : List ℕ) (a : ℕ) → FromTarget (without_lengths G) target issuers a → Found (target ∷ issuers)
      found_from [] a t = absurd (alone a t.1)
      found_from (w ∷ ps) a t =
          let f = walk ps 0 w a (shut w (tail_fit (without_lengths G) 0 w ps a t.2) t.1) (from_start w t.1) t.2 in
          (f.0, later target (w ∷ ps) f.0 f.1, f.2)

    usable_target : (issuers : List ℕ) (a : ℕ) → FromTarget (without_lengths G) target issuers a → G.Usable target
    usable_target [] a t = t.0
    usable_target (w ∷ ps) a t = t.0

    pub in_the_way : (table : Table) (ps : List ℕ) (a : ℕ) → IsAdequate G target (NoPath table) → IsUncountedPath r items anchors target ps a → (v : ℕ) × Contains ps v × IsBound r items target (reach_by (NoPath table)) v
    in_the_way table ps a h p =
        let row = row_of (rows_of table) 0 in
        let same : h.row ≡ row = ap (λ (rs : List (List Reach)). row_of rs 0) (sym h.one) in
        let from = from_valid (without_lengths G) target ps a p in
        elim h.closed [
          | inl unusable ↦ absurd (unusable (usable_target p.issuers a from))
          | inr c ↦
              let f = found_from row (subst (HasAnchored G) same h.anchored) (subst (λ s. IsSuccessor G s s) same h.fixed) c.0 (λ w fit edge. subst (λ s. at_row s w ≡ No) same (c.1 w fit edge)) p.issuers a from in
              (f.0, subst (λ l. Contains l f.0) (sym p.starts) f.1, f.2)
        ]

    -- ---- exactly if

    -- a valid path is one but for path lengths
    uncounted : (ps : List ℕ) (a : ℕ) → IsValidPath G target ps a → IsUncountedPath r items anchors target ps a
    uncounted ps a p = record {
      issuers = p.issuers;
      starts = p.starts;
      usable = p.usable;
      fit = p.fit;
      linked = p.linked;
      anchored = p.anchored;
      limits = λ front back v e. tt;
    }

    none_bound : (reach : ℕ → Reach) (v : ℕ) → reach v ≡ No → IsBound r items target reach v → ⊥
    none_bound reach v e b = let same : No ≡ UpTo 0 = sym e ∙ b.0.2.bounded in absurd (cc)

    pub exactly : (answer : Answer) → IsAdequate G target answer
        → ((ps : List ℕ) × (a : ℕ) × IsFreePath r items anchors target (reach_by answer) ps a) ↔ ((ps : List ℕ) × (a : ℕ) × IsValidPath G target ps a)
    exactly (Path qs b table) h = (
      λ f. (qs.items, b, h.valid),
      λ p. (p.0, p.1, (uncounted p.0 p.1 p.2, λ k d lt. none_bound (reach_by (Path qs b table)) (get_or p.0 k d) refl)),
    )
    exactly (NoPath table) h = (
      λ f. let b = in_the_way table f.0 f.1 h f.2.0 in absurd (subst (λ v. IsBound r items target (reach_by (NoPath table)) v → ⊥) b.1.2 (f.2.1 b.1.0 b.0 b.1.1) b.2),
      λ p. absurd ((adequate_is_true G target (NoPath table) h).1 p.0 p.1 p.2),
    )
    exactly NoTarget h = (
      λ f. absurd (h (usable_certificate target (usable_target f.2.0.issuers f.1 (from_valid (without_lengths G) target f.0 f.1 f.2.0)))),
      λ p. absurd (h (usable_certificate target (usable_target (uncounted p.0 p.1 p.2).issuers p.1 (from_valid (without_lengths G) target p.0 p.1 (uncounted p.0 p.1 p.2))))),
    )
