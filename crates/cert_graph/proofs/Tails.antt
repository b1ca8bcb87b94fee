-- Chains of issuers, from the first on.
use Rattle.std.proofs.Common.{◌≡◌, ℕ, zero, suc, ◌+◌, ◌≤◌, ◌<◌, not, cond, List, [], ◌∷◌, ◌++◌, length, arith, ap, sym, ◌∙◌, subst, refl, add_assoc, add-zero}
use Rattle.std.specs.Prelude.{All}
use Rattle.std.proofs.lemmas.List.Elements.{All-head, All-tail, All-cons, All-nil}
use Rattle.std.proofs.lemmas.List.Sums.{sum_by-cons}
use Rattle.cert_graph.specs.declared.reach.Reach.{Reach}
use Rattle.cert_graph.specs.Reach.{Takes, lesser}
use Rattle.cert_graph.specs.Graph.{Graph, counted, AreNeighbours, EndsIn, KeepsLimits, IsChain}
use Rattle.cert_graph.specs.Adequate.{at_row, row_of, HasAnchored, HasAnchoredAt, IsSuccessor, passed_by}
use Rattle.cert_graph.specs.Steps.{one_of, Tail}
use Rattle.cert_graph.proofs.ReachFacts.{more_takes, lesser_takes, passed_takes}

pub counted_cons : (g : Graph) (v : ℕ) (ps : List ℕ) → counted g (v ∷ ps) ≡ one_of g v + counted g ps
counted_cons g v ps = sum_by-cons (λ p. cond (not (g.self_issued p)) 1 0) v ps

pub count_moved : (g : Graph) (c v : ℕ) (ps : List ℕ) → c + counted g (v ∷ ps) ≡ (c + one_of g v) + counted g ps
count_moved g c v ps = ap (λ n. c + n) (counted_cons g v ps) ∙ sym (add_assoc c (one_of g v) (counted g ps))

pub tail_of_chain : (g : Graph) (c v : ℕ) (ps : List ℕ) (a : ℕ) → All g.Fit (v ∷ ps) → AreNeighbours g.Edge (v ∷ ps) → EndsIn (λ u. g.AnchorEdge u a) (v ∷ ps) → KeepsLimits g c (v ∷ ps) → Tail g c v ps a
tail_of_chain g c v [] a fit linked anchored limits =
    (All-head g.Fit v [] fit, subst (λ (n : ℕ). Takes (g.limit v) n) (add-zero c) (limits [] [] v refl), anchored [] v refl)
tail_of_chain g c v (w ∷ ps) a fit linked anchored limits = (
  All-head g.Fit v (w ∷ ps) fit,
  subst (λ (n : ℕ). Takes (g.limit v) n) (add-zero c) (limits [] (w ∷ ps) v refl),
  linked [] ps v w refl,
  tail_of_chain g (c + one_of g v) w ps a (All-tail g.Fit v (w ∷ ps) fit)
      (λ front back x y e. linked (v ∷ front) back x y (ap (λ ys. v ∷ ys) e))
      (λ front x e. anchored (v ∷ front) x (ap (λ ys. v ∷ ys) e))
      (λ front back x e. subst (λ (n : ℕ). Takes (g.limit x) n) (count_moved g c v front) (limits (v ∷ front) back x (ap (λ ys. v ∷ ys) e))),
)

-- a tail's own tail
pub tail_drop : (g : Graph) (c v : ℕ) (front : List ℕ) (p : ℕ) (rest : List ℕ) (a : ℕ) → Tail g c v (front ++ p ∷ rest) a → Tail g (c + counted g (v ∷ front)) p rest a
tail_drop g c v [] p rest a t = subst (λ (n : ℕ). Tail g n p rest a) (sym (count_moved g c v [] ∙ add-zero (c + one_of g v))) t.3
tail_drop g c v (w ∷ front) p rest a t =
    subst (λ (n : ℕ). Tail g n p rest a) (sym (count_moved g c v (w ∷ front))) (tail_drop g (c + one_of g v) w front p rest a t.3)

-- one step of what the rows say
pub step_takes : (g : Graph) (r s : List Reach) → IsSuccessor g r s → (c v w : ℕ) → g.Fit v → g.Fit w → g.Edge v w → Takes (g.limit v) c → Takes (at_row r w) (c + one_of g v) → Takes (at_row s v) c
step_takes g r s h c v w fv fw e tv tw =
    more_takes (lesser (g.limit v) (passed_by g v (at_row r w))) (at_row s v) c (h v w fv fw e)
    (lesser_takes (g.limit v) (passed_by g v (at_row r w)) c tv (passed_takes (g.self_issued v) (at_row r w) c tw))

pub tail_fit : (g : Graph) (c v : ℕ) (ps : List ℕ) (a : ℕ) → Tail g c v ps a → g.Fit v
tail_fit g c v [] a t = t.0
tail_fit g c v (w ∷ ps) a t = t.0

-- a chain of at most k + 1 issuers is seen in the row of k + 1
pub rows_take : (g : Graph) (rows : List (List Reach)) → All (HasAnchored g) rows → ((k : ℕ) → k + 1 < length rows → IsSuccessor g (row_of rows k) (row_of rows (k + 1)))
    → (ps : List ℕ) (k c v a : ℕ) → length ps ≤ k → k < length rows → Tail g c v ps a → Takes (at_row (row_of rows k) v) c
unfolding HasAnchoredAt
rows_take g rows base next [] k c v a short within t =
    more_takes (g.limit v) (at_row (row_of rows k) v) c (base k [] within v a t.0 t.2) t.1
rows_take g rows base next (w ∷ ps) zero c v a short within t = absurd (omega arith)
rows_take g rows base next (w ∷ ps) (suc k) c v a short within t =
    let here : k + 1 < length rows = omega arith in
    let below : k < length rows = omega arith in
    let fits : length ps ≤ k = omega arith in
    let same : k + 1 ≡ suc k = omega arith in
    subst (λ (n : ℕ). Takes (at_row (row_of rows n) v) c) same
    (step_takes g (row_of rows k) (row_of rows (k + 1)) (next k here) c v w t.0 (tail_fit g (c + one_of g v) w ps a t.3) t.2 t.1
    (rows_take g rows base next ps k (c + one_of g v) w a fits below t.3))

-- a row that is its own successor sees every chain
pub fixed_takes : (g : Graph) (row : List Reach) → HasAnchored g row → IsSuccessor g row row
    → (ps : List ℕ) (c v a : ℕ) → Tail g c v ps a → Takes (at_row row v) c
unfolding HasAnchoredAt
fixed_takes g row base next [] c v a t = more_takes (g.limit v) (at_row row v) c (base v a t.0 t.2) t.1
fixed_takes g row base next (w ∷ ps) c v a t =
    step_takes g row row next c v w t.0 (tail_fit g (c + one_of g v) w ps a t.3) t.2 t.1 (fixed_takes g row base next ps (c + one_of g v) w a t.3)

pub fit_of_tail : (g : Graph) (c v : ℕ) (ps : List ℕ) (a : ℕ) → Tail g c v ps a → All g.Fit (v ∷ ps)
fit_of_tail g c v [] a t = All-cons g.Fit v [] t.0 (All-nil g.Fit)
fit_of_tail g c v (w ∷ ps) a t = All-cons g.Fit v (w ∷ ps) t.0 (fit_of_tail g (c + one_of g v) w ps a t.3)

pub linked_of_tail : (g : Graph) (c v : ℕ) (ps : List ℕ) (a : ℕ) → Tail g c v ps a → AreNeighbours g.Edge (v ∷ ps)
linked_of_tail g c v [] a t [] back x y e = absurd (cc e)
linked_of_tail g c v [] a t (u ∷ []) back x y e = absurd (cc e)
linked_of_tail g c v [] a t (u ∷ f ∷ front) back x y e = absurd (cc e)
linked_of_tail g c v (w ∷ ps) a t [] back x y e =
    let ex : v ≡ x = cc e in
    let ey : w ≡ y = cc e in
    subst (λ (z : ℕ). g.Edge z y) ex (subst (g.Edge v) ey t.2)
linked_of_tail g c v (w ∷ ps) a t (u ∷ front) back x y e =
    let rest : w ∷ ps ≡ front ++ x ∷ y ∷ back = cc e in
    linked_of_tail g (c + one_of g v) w ps a t.3 front back x y rest

pub anchored_of_tail : (g : Graph) (c v : ℕ) (ps : List ℕ) (a : ℕ) → Tail g c v ps a → EndsIn (λ u. g.AnchorEdge u a) (v ∷ ps)
anchored_of_tail g c v [] a t [] x e = let ex : v ≡ x = cc e in subst (λ (z : ℕ). g.AnchorEdge z a) ex t.2
anchored_of_tail g c v [] a t (u ∷ []) x e = absurd (cc e)
anchored_of_tail g c v [] a t (u ∷ f ∷ front) x e = absurd (cc e)
anchored_of_tail g c v (w ∷ ps) a t [] x e = absurd (cc e)
anchored_of_tail g c v (w ∷ ps) a t (u ∷ front) x e =
    let rest : w ∷ ps ≡ front ++ x ∷ [] = cc e in
    anchored_of_tail g (c + one_of g v) w ps a t.3 front x rest

pub tail_takes : (g : Graph) (c v : ℕ) (ps : List ℕ) (a : ℕ) → Tail g c v ps a → Takes (g.limit v) c
tail_takes g c v [] a t = t.1
tail_takes g c v (w ∷ ps) a t = t.1

pub limits_of_tail : (g : Graph) (c v : ℕ) (ps : List ℕ) (a : ℕ) → Tail g c v ps a → KeepsLimits g c (v ∷ ps)
limits_of_tail g c v ps a t [] back x e =
    let ex : v ≡ x = cc e in
    subst (λ (z : ℕ). Takes (g.limit z) (c + 0)) ex (subst (λ (n : ℕ). Takes (g.limit v) n) (sym (add-zero c)) (tail_takes g c v ps a t))
limits_of_tail g c v [] a t (u ∷ []) back x e = absurd (cc e)
limits_of_tail g c v [] a t (u ∷ f ∷ front) back x e = absurd (cc e)
limits_of_tail g c v (w ∷ ps) a t (u ∷ front) back x e =
    let rest : w ∷ ps ≡ front ++ x ∷ back = cc e in
    let same : v ≡ u = cc e in
    subst (λ (z : ℕ). Takes (g.limit x) (c + counted g (z ∷ front))) same
    (subst (λ (n : ℕ). Takes (g.limit x) n) (sym (count_moved g c v front)) (limits_of_tail g (c + one_of g v) w ps a t.3 front back x rest))

pub chain_of_tail : (g : Graph) (c v : ℕ) (ps : List ℕ) (a : ℕ) → Tail g c v ps a → IsChain g c (v ∷ ps) a
chain_of_tail g c v ps a t = record {
  some = λ e. cc e;
  fit = fit_of_tail g c v ps a t;
  linked = linked_of_tail g c v ps a t;
  anchored = anchored_of_tail g c v ps a t;
  limits = limits_of_tail g c v ps a t;
}

pub tail_from_chain : (g : Graph) (c v : ℕ) (ps : List ℕ) (a : ℕ) → IsChain g c (v ∷ ps) a → Tail g c v ps a
tail_from_chain g c v ps a h = tail_of_chain g c v ps a h.fit h.linked h.anchored h.limits
