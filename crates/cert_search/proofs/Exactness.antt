-- Raised rows hold exactly what chains reach, and meet the inequalities of a table.
use Rattle.std.proofs.Common.{◌≡◌, ℕ, zero, suc, ◌+◌, ◌≤◌, List, [], ◌∷◌, length, arith, subst, inl, inr}
use Rattle.std.specs.Prelude.{◌↔◌, ◌⊎◌}
use Rattle.cert_graph.specs.declared.reach.Reach.{Reach}
use Rattle.cert_graph.specs.Reach.{Takes, IsAtMost, lesser}
use Rattle.cert_graph.specs.Graph.{Graph, IsReached}
use Rattle.cert_graph.specs.Adequate.{at_row, passed_by, HasAnchored, HasAnchoredAt, IsSuccessor}
use Rattle.cert_graph.specs.Steps.{one_of, Tail}
use Rattle.cert_graph.proofs.ReachFacts.{more_takes, passed_back, at_most_from_takes, lesser_left, lesser_right, no_takes}
use Rattle.cert_graph.proofs.Tails.{chain_of_tail, tail_from_chain, tail_fit}
use Rattle.cert_search.specs.Exact.{HoldsExactly, HoldsAll, HoldsNoElsewhere}
use Rattle.cert_search.specs.Rows.{AreOffers, IsRaisedBy, IsFixed, StandsUnder}

-- whoever is reached is fit
pub reached_fit : (g : Graph) (number v c : ℕ) → IsReached g number v c → g.Fit v
reached_fit g number v c r = tail_fit g c v r.0 r.1 (tail_from_chain g c v r.0 r.1 r.3)

-- what is offered over at most so many issuers
abbrev pub OffersExactly : Graph → ℕ → List Reach → Type 0
OffersExactly g number offers =
    (v c : ℕ) → Takes (at_row offers v) c ↔ (((a : ℕ) × g.AnchorEdge v a) ⊎ ((w : ℕ) × g.Edge v w × IsReached g number w c))

-- what an exact row offers
pub offers_exact : (g : Graph) (number : ℕ) (row offers : List Reach) → HoldsExactly g number row → AreOffers g row offers → OffersExactly g number offers
offers_exact g number row offers h k v c = (
  λ t. elim ((k v c).0 t) [ inl a ↦ inl a | inr x ↦ inr (x.0, x.2, (h x.0 c).0 x.3) ],
  λ o. elim o [ inl a ↦ (k v c).1 (inl a) | inr x ↦ (k v c).1 (inr (x.0, reached_fit g number x.0 c x.2, x.1, (h x.0 c).1 x.2)) ],
)

reached_taken : (g : Graph) (number : ℕ) (offers row : List Reach) → OffersExactly g number offers → IsRaisedBy g offers row → (v c : ℕ) (ps : List ℕ) (a : ℕ) → length (v ∷ ps) ≤ number + 1 → Tail g c v ps a → Takes (at_row row v) c
reached_taken g number offers row h k v c [] a short t = (k v c).1 (t.0, t.1, (h v (c + one_of g v)).1 (inl (a, t.2)))
reached_taken g number offers row h k v c (w ∷ ps) a short t =
    let fits : length (w ∷ ps) ≤ number = omega arith in
    (k v c).1 (t.0, t.1, (h v (c + one_of g v)).1 (inr (w, t.2, (ps, a, fits, chain_of_tail g (c + one_of g v) w ps a t.3))))

-- one round: rows raised by exact offers are exact for one certificate more
pub raised_exact : (g : Graph) (number : ℕ) (offers row : List Reach) → OffersExactly g number offers → IsRaisedBy g offers row → HoldsExactly g (number + 1) row
raised_exact g number offers row h k v c = (
  λ t. let x = (k v c).0 t in
      elim ((h v (c + one_of g v)).0 x.2) [
        | inl y ↦ ([], y.0, omega arith, chain_of_tail g c v [] y.0 (x.0, x.1, y.1))
        | inr y ↦
            let z = y.2 in
            let short : length (y.0 ∷ z.0) ≤ number = z.2 in
            (y.0 ∷ z.0, z.1, omega arith, chain_of_tail g c v (y.0 ∷ z.0) z.1 (x.0, x.1, y.1, tail_from_chain g (c + one_of g v) y.0 z.0 z.1 z.3))
      ],
  λ r. reached_taken g number offers row h k v c r.0 r.1 r.2 (tail_from_chain g c v r.0 r.1 r.3),
)

-- exact rows, and exact offers, rise with the number of certificates
pub reached_more : (g : Graph) (m n v c : ℕ) → m ≤ n → IsReached g m v c → IsReached g n v c
reached_more g m n v c le x = let short : length (v ∷ x.0) ≤ n = omega (arith, x.2) in (x.0, x.1, short, x.3)

pub offers_rise : (g : Graph) (m n : ℕ) (r s : List Reach) → m ≤ n → OffersExactly g m r → OffersExactly g n s → (v : ℕ) → IsAtMost (at_row r v) (at_row s v)
offers_rise g m n r s le h k v = at_most_from_takes (at_row r v) (at_row s v)
    (λ c t. elim ((h v c).0 t) [ inl a ↦ (k v c).1 (inl a) | inr x ↦ (k v c).1 (inr (x.0, x.1, reached_more g m n x.0 c le x.2)) ])

-- if the next offers are no higher, the row that they come from is raised from itself
pub stands_fixed : (g : Graph) (n : ℕ) (offers row next : List Reach) → OffersExactly g n offers → IsRaisedBy g offers row → AreOffers g row next → StandsUnder next offers → IsFixed g row
stands_fixed g n offers row next h k o under =
    let up = offers_rise g n (n + 1) offers next (omega arith) h (offers_exact g (n + 1) row next (raised_exact g n offers row h k) o) in record {
      offers = offers;
      offered = λ v c. (
        λ t. (o v c).0 (more_takes (at_row offers v) (at_row next v) c (up v) t),
        λ x. more_takes (at_row next v) (at_row offers v) c (under v) ((o v c).1 x),
      );
      raised = k;
    }

-- a fixed row is exact for every number from then on
fixed_exact : (g : Graph) (number : ℕ) (row : List Reach) → HoldsExactly g number row → IsFixed g row → (more : ℕ) → HoldsExactly g (number + more) row
fixed_exact g number row h k zero = let e : number ≡ number + 0 = omega arith in subst (λ (n : ℕ). HoldsExactly g n row) e h
fixed_exact g number row h k (suc more) =
    let e : (number + more) + 1 ≡ number + suc more = omega arith in
    subst (λ (n : ℕ). HoldsExactly g n row) e
    (raised_exact g (number + more) k.offers row (offers_exact g (number + more) row k.offers (fixed_exact g number row h k more) k.offered) k.raised)

pub fixed_holds_all : (g : Graph) (number : ℕ) (row : List Reach) → HoldsExactly g number row → IsFixed g row → HoldsAll g row
fixed_holds_all g number row h k v c = (
  λ t. (number, (h v c).0 t),
  λ r. (fixed_exact g number row h k r.0 v c).1 (reached_more g r.0 (number + r.0) v c (omega arith) r.1),
)

-- a fixed row meets the inequalities
pub fixed_anchored : (g : Graph) (row : List Reach) → IsFixed g row → HasAnchored g row
unfolding HasAnchoredAt
fixed_anchored g row k v a fit e =
    at_most_from_takes (g.limit v) (at_row row v) (λ c t. (k.raised v c).1 (fit, t, (k.offered v (c + one_of g v)).1 (inl (a, e))))

pub fixed_successor : (g : Graph) (row : List Reach) → IsFixed g row → IsSuccessor g row row
fixed_successor g row k v w fv fw e =
    at_most_from_takes (lesser (g.limit v) (passed_by g v (at_row row w))) (at_row row v)
    (λ c t. (k.raised v c).1 (
      fv,
      lesser_left (g.limit v) (passed_by g v (at_row row w)) c t,
      (k.offered v (c + one_of g v)).1
          (inr (w, fw, e, passed_back (g.self_issued v) (at_row row w) c (lesser_right (g.limit v) (passed_by g v (at_row row w)) c t))),
    ))

-- so do exact rows
pub exact_anchored : (g : Graph) (number : ℕ) (row : List Reach) → HoldsExactly g (number + 1) row → HasAnchored g row
unfolding HasAnchoredAt
exact_anchored g number row h v a fit e = at_most_from_takes (g.limit v) (at_row row v)
    (λ c t. (h v c).1 ([], a, omega arith, chain_of_tail g c v [] a (fit, t, e)))

pub exact_successor : (g : Graph) (number : ℕ) (r s : List Reach) → HoldsExactly g number r → HoldsExactly g (number + 1) s → IsSuccessor g r s
exact_successor g number r s h k v w fv fw e = at_most_from_takes (lesser (g.limit v) (passed_by g v (at_row r w))) (at_row s v)
    (λ c t.
    let x = (h w (c + one_of g v)).0 (passed_back (g.self_issued v) (at_row r w) c (lesser_right (g.limit v) (passed_by g v (at_row r w)) c t)) in
    let short : length (v ∷ w ∷ x.0) ≤ number + 1 = omega (arith, x.2) in
    (k v c).1 (w ∷ x.0, x.1, short, chain_of_tail g c v (w ∷ x.0) x.1 (fv, lesser_left (g.limit v) (passed_by g v (at_row r w)) c t, e, tail_from_chain g (c + one_of g v) w x.0 x.1 x.3)))

-- an exact row holds nothing elsewhere
pub exact_no_elsewhere : (g : Graph) (number : ℕ) (row : List Reach) → HoldsExactly g number row → HoldsNoElsewhere g row
exact_no_elsewhere g number row h v unfit = no_takes (at_row row v) (λ t. unfit (reached_fit g number v 0 ((h v 0).0 t)))
