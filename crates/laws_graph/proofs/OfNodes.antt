-- The four items stand for the graph that `cert_graph` has an inventory of, so what is adequate there is adequate here.
use Rattle.std.proofs.Common.{◌≡◌, ℕ, zero, suc, ◌<◌, true, [], ◌∷◌, arith, refl, sym, subst, Global}
use Rattle.std.specs.Prelude.{Contains}
use Rattle.std.proofs.Math.Dec.{lit<}
use Rattle.cert_graph.specs.Adequate.{IsAdequate}
use Rattle.cert_graph.specs.Examples.{four_items}
use Rattle.cert_graph.specs.Graph.{IsFirstPath}
use Rattle.cert_graph.specs.Inventory.{IsAdequateInventory, IsAdequateVerdict, IsTrueInventory, shared_rows, OfEach}
use Rattle.cert_graph.specs.Laws.{Agrees, FitIsUsable}
use Rattle.cert_graph.specs.LawsOfNodes.{HasFurther}
use Rattle.cert_graph.specs.Nodes.{graph_of, HasLink, HasAnchorLink, Links, LinksToAnchor, IsNode}
use Rattle.cert_graph.proofs.Agreeing.{agreed_adequate}
use Rattle.cert_graph.proofs.AgreeingInventories.{agreed_inventory}
use Rattle.cert_graph.proofs.ExampleInventory.{inventory_of_four}
use Rattle.cert_graph.proofs.Sharing.{inventory_true}
use Rattle.cert_graph.proofs.True.{adequate_is_true}
use Rattle.laws_graph.specs.Four.{anchors, bare_inventory, by_changes, five, four, issued, issuers, more_issuers, no_certificate, whole_inventory}

-- what a list of one has
only : (x y : ℕ) → Contains (x ∷ []) y → x ≡ y
only x y (zero, lt, is) = is
only x y (suc k, lt, is) = absurd (omega (arith, lt))

not_of_none : (y : ℕ) → Contains [] y → ⊥
not_of_none y (k, lt, is) = omega (arith, lt)

module _ (alloc : Global) where
  -- of the four, the first three are certificates, and the first is fit
  certified : (v : ℕ) → v < 3 → IsNode (four alloc) v (λ n. n.certificate ≡ true)
  certified zero lt = (lit< tt, λ d. refl)
  certified (suc zero) lt = (lit< tt, λ d. refl)
  certified (suc (suc zero)) lt = (lit< tt, λ d. refl)
  certified (suc (suc (suc v))) lt = absurd (omega (arith, lt))

  usable : (v : ℕ) → v < 3 → IsNode (four alloc) v (λ n. n.usable ≡ true)
  usable zero lt = (lit< tt, λ d. refl)
  usable (suc zero) lt = (lit< tt, λ d. refl)
  usable (suc (suc zero)) lt = (lit< tt, λ d. refl)
  usable (suc (suc (suc v))) lt = absurd (omega (arith, lt))

  certificates_alone : (v : ℕ) → IsNode (four alloc) v (λ n. n.certificate ≡ true) → v < 3
  certificates_alone zero is = lit< tt
  certificates_alone (suc zero) is = lit< tt
  certificates_alone (suc (suc zero)) is = lit< tt
  certificates_alone (suc (suc (suc zero))) is = absurd (let said = is.1 no_certificate in cc said)
  certificates_alone (suc (suc (suc (suc v)))) is = absurd (let lt = is.0 in omega (arith, lt))

  usable_alone : (v : ℕ) → IsNode (four alloc) v (λ n. n.usable ≡ true) → v < 3
  usable_alone zero is = lit< tt
  usable_alone (suc zero) is = lit< tt
  usable_alone (suc (suc zero)) is = lit< tt
  usable_alone (suc (suc (suc zero))) is = absurd (let said = is.1 no_certificate in cc said)
  usable_alone (suc (suc (suc (suc v)))) is = absurd (let lt = is.0 in omega (arith, lt))

  fit : (v : ℕ) → v ≡ 0 → IsNode (four alloc) v (λ n. n.fit ≡ true)
  fit zero e = (lit< tt, λ d. refl)
  fit (suc v) e = absurd (omega (arith, e))

  fit_alone : (v : ℕ) → IsNode (four alloc) v (λ n. n.fit ≡ true) → v ≡ 0
  fit_alone zero is = refl
  fit_alone (suc zero) is = absurd (let said = is.1 no_certificate in cc said)
  fit_alone (suc (suc zero)) is = absurd (let said = is.1 no_certificate in cc said)
  fit_alone (suc (suc (suc zero))) is = absurd (let said = is.1 no_certificate in cc said)
  fit_alone (suc (suc (suc (suc v)))) is = absurd (let lt = is.0 in omega (arith, lt))

  self_issued : (v : ℕ) → (graph_of (four alloc)).self_issued v ≡ four_items.self_issued v
  self_issued zero = refl
  self_issued (suc zero) = refl
  self_issued (suc (suc zero)) = refl
  self_issued (suc (suc (suc zero))) = refl
  self_issued (suc (suc (suc (suc v)))) = refl

  limit : (v : ℕ) → v ≡ 0 → (graph_of (four alloc)).limit v ≡ four_items.limit v
  limit zero e = refl
  limit (suc v) e = absurd (omega (arith, e))

  -- one link, and one to the anchor
  link : (v w : ℕ) → v ≡ 1 → w ≡ 0 → Links (four alloc) v w
  unfolding Links
  link (suc zero) zero e f = (0, issuers alloc, lit< tt, refl, record { issued = (0, lit< tt, refl); member = (0, lit< tt, refl) })
  link zero w e f = absurd (omega (arith, e))
  link (suc (suc v)) w e f = absurd (omega (arith, e))
  link (suc zero) (suc w) e f = absurd (omega (arith, f))

  by_issuers : (v w : ℕ) → HasLink v w (issuers alloc) → (v ≡ 1) × (w ≡ 0)
  by_issuers v w is = (sym (only 1 v is.issued), sym (only 0 w is.member))

  by_anchors : (v w : ℕ) → HasLink v w (anchors alloc) → (v ≡ 1) × (w ≡ 0)
  by_anchors v w is = absurd (not_of_none w is.member)

  link_alone : (v w : ℕ) → Links (four alloc) v w → (v ≡ 1) × (w ≡ 0)
  unfolding Links
  link_alone v w (zero, g, lt, at, is) = by_issuers v w (subst (HasLink v w) (sym at) is)
  link_alone v w (suc zero, g, lt, at, is) = by_anchors v w (subst (HasLink v w) (sym at) is)
  link_alone v w (suc (suc k), g, lt, at, is) = absurd (omega (arith, lt))

  to_anchor : (v a : ℕ) → v ≡ 0 → a ≡ 0 → LinksToAnchor (four alloc) v a
  unfolding LinksToAnchor
  to_anchor zero zero e f = (1, anchors alloc, lit< tt, refl, record { issued = (0, lit< tt, refl); anchor = (0, lit< tt, refl) })
  to_anchor (suc v) a e f = absurd (omega (arith, e))
  to_anchor zero (suc a) e f = absurd (omega (arith, f))

  anchor_by_issuers : (v a : ℕ) → HasAnchorLink v a (issuers alloc) → (v ≡ 0) × (a ≡ 0)
  anchor_by_issuers v a is = absurd (not_of_none a is.anchor)

  anchor_by_anchors : (v a : ℕ) → HasAnchorLink v a (anchors alloc) → (v ≡ 0) × (a ≡ 0)
  anchor_by_anchors v a is = (sym (only 0 v is.issued), sym (only 0 a is.anchor))

  to_anchor_alone : (v a : ℕ) → LinksToAnchor (four alloc) v a → (v ≡ 0) × (a ≡ 0)
  unfolding LinksToAnchor
  to_anchor_alone v a (zero, g, lt, at, is) = anchor_by_issuers v a (subst (HasAnchorLink v a) (sym at) is)
  to_anchor_alone v a (suc zero, g, lt, at, is) = anchor_by_anchors v a (subst (HasAnchorLink v a) (sym at) is)
  to_anchor_alone v a (suc (suc k), g, lt, at, is) = absurd (omega (arith, lt))

  agrees : Agrees four_items (graph_of (four alloc))
  agrees = record {
    items = refl;
    certificate = λ v. (certified v, certificates_alone v);
    usable = λ v. (usable v, usable_alone v);
    fit = λ v. (fit v, fit_alone v);
    self_issued = self_issued;
    limit = limit;
    edge = λ v w is. (λ e. link v w e.0 e.1, link_alone v w);
    anchored = λ v a. (λ e. to_anchor v a e.0 e.1, to_anchor_alone v a);
  }

  fit_usable : FitIsUsable four_items
  fit_usable v is = omega (arith, is)

  -- the path, by changes and by the row
  pub adequate : IsAdequate (graph_of (four alloc)) 1 (by_changes alloc)
  adequate = (agreed_adequate four_items (graph_of (four alloc)) agrees fit_usable 1 (by_changes alloc)).0 inventory_of_four.second

  pub first : IsFirstPath (graph_of (four alloc)) 1 (1 ∷ 0 ∷ []) 0
  first = adequate_is_true (graph_of (four alloc)) 1 (by_changes alloc) adequate

  -- the inventory, verdict by verdict
  each : OfEach (IsAdequateVerdict four_items (shared_rows four_items (whole_inventory alloc))) (whole_inventory alloc).verdicts.items
  each zero lt d = inventory_of_four.first
  each (suc zero) lt d = inventory_of_four.second
  each (suc (suc zero)) lt d = inventory_of_four.third
  each (suc (suc (suc zero))) lt d = inventory_of_four.fourth
  each (suc (suc (suc (suc target)))) lt d = absurd (omega (arith, lt))

  there : IsAdequateInventory four_items (whole_inventory alloc)
  there = record { table = inventory_of_four.table; stands = inventory_of_four.stands; count = refl; each = each }

  pub inventory : IsAdequateInventory (graph_of (four alloc)) (whole_inventory alloc)
  inventory = (agreed_inventory four_items (graph_of (four alloc)) agrees fit_usable (whole_inventory alloc)).0 there

  pub true_whole : IsTrueInventory (graph_of (four alloc)) (whole_inventory alloc)
  true_whole = inventory_true (graph_of (four alloc)) (whole_inventory alloc) inventory

  pub true_bare : IsTrueInventory (graph_of (four alloc)) (bare_inventory alloc)
  true_bare = record { count = true_whole.count; each = true_whole.each }

  -- a further item keeps the links
  more_links : (v w : ℕ) → v ≡ 1 → w ≡ 0 → Links (five alloc) v w
  unfolding Links
  more_links (suc zero) zero e f = (0, more_issuers alloc, lit< tt, refl, record { issued = (0, lit< tt, refl); member = (0, lit< tt, refl) })
  more_links zero w e f = absurd (omega (arith, e))
  more_links (suc (suc v)) w e f = absurd (omega (arith, e))
  more_links (suc zero) (suc w) e f = absurd (omega (arith, f))

  more_anchors : (v a : ℕ) → v ≡ 0 → a ≡ 0 → LinksToAnchor (five alloc) v a
  unfolding LinksToAnchor
  more_anchors zero zero e f = (1, anchors alloc, lit< tt, refl, record { issued = (0, lit< tt, refl); anchor = (0, lit< tt, refl) })
  more_anchors (suc v) a e f = absurd (omega (arith, e))
  more_anchors zero (suc a) e f = absurd (omega (arith, f))

  pub further : HasFurther (four alloc) (five alloc)
  further = record {
    more = issued ∷ [];
    items = refl;
    links = λ v w is there. (let e = link_alone v w there in more_links v w e.0 e.1);
    anchored = λ v a there. (let e = to_anchor_alone v a there in more_anchors v a e.0 e.1);
  }
