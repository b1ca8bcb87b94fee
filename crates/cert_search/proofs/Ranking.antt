-- How high a row is: a number that rises with each round of a search, up to a bound that the limits
-- set.
use Rattle.std.proofs.Common.{◌≡◌, ℕ, suc, ◌+◌, ◌*◌, ◌-◌, ◌≤◌, ◌<◌, List, [], ◌∷◌, length, map, get_or, arith, ap, sym, subst, refl, inl, inr}
use Rattle.std.specs.Prelude.{All, ◌⊎◌}
use Rattle.std.specs.List.{sum_by}
use Rattle.std.proofs.lemmas.List.{get_or-map, get_or_past, get_or_default, length-map}
use Rattle.std.proofs.lemmas.List.Elements.{All-head, All-tail}
use Rattle.std.proofs.lemmas.List.Sums.{sum_by-cons, get_or-le-sum_by}
use Rattle.std.proofs.lemmas.Bool.{cases_lt}
use Rattle.cert_graph.specs.declared.reach.Reach.{Reach}
use Rattle.cert_graph.specs.declared.reach.Reach.TheVariants.{No, UpTo, Any}
use Rattle.cert_graph.specs.declared.nodes.Node.{Node}
use Rattle.cert_graph.specs.declared.nodes.Nodes.{Nodes}
use Rattle.cert_graph.specs.Reach.{Takes, IsAtMost, reach_of}
use Rattle.cert_graph.specs.Graph.{Graph, IsReached}
use Rattle.cert_graph.specs.Adequate.{at_row}
use Rattle.cert_graph.specs.Steps.{one_of, Tail}
use Rattle.cert_graph.specs.Nodes.{graph_of}
use Rattle.cert_graph.proofs.ReachFacts.{at_most_self}
use Rattle.cert_graph.proofs.Tails.{chain_of_tail, tail_from_chain}
use Rattle.cert_graph.proofs.PlacesOfNodes.{element_at}
use Rattle.cert_search.specs.Rows.{StandsUnder}
use Rattle.cert_search.proofs.Exactness.{OffersExactly}

-- a reach is no number from a bound on
abbrev pub IsWithin : ℕ → Reach → Type 0
IsWithin bound No = Unit {0}
IsWithin bound (UpTo n) = n < bound
IsWithin bound Any = Unit {0}

-- one more than a reach's number
abbrev pub height : ℕ → Reach → ℕ
height bound No = 0
height bound (UpTo n) = n + 1
height bound Any = bound + 1

abbrev pub rank : ℕ → List Reach → ℕ
rank bound row = sum_by (height bound) row

-- each limit is within a bound
abbrev pub IsLimitBound : Graph → ℕ → Type 0
IsLimitBound g bound = (v : ℕ) → IsWithin bound (g.limit v)

-- a bound on all limits
abbrev pub bound_of : Nodes → ℕ
bound_of nodes = sum_by (λ n. height 0 (reach_of n.limit)) nodes.items.items

-- a reach within a bound that takes a count from the bound on takes every count
takes_on : (bound : ℕ) (r : Reach) (c : ℕ) → IsWithin bound r → bound ≤ c → Takes r c → Takes r (c + 1)
takes_on bound No c h le t = t
takes_on bound (UpTo n) c h le t = absurd (omega arith)
takes_on bound Any c h le t = tt

tail_on : (g : Graph) (bound : ℕ) → IsLimitBound g bound → (c v : ℕ) (ps : List ℕ) (a : ℕ) → bound ≤ c → Tail g c v ps a → Tail g (c + 1) v ps a
tail_on g bound limits c v [] a le t = (t.0, takes_on bound (g.limit v) c (limits v) le t.1, t.2)
tail_on g bound limits c v (w ∷ ps) a le t =
    let more : (c + one_of g v) + 1 ≡ (c + 1) + one_of g v = omega arith in
    let above : bound ≤ c + one_of g v = omega arith in
    (t.0, takes_on bound (g.limit v) c (limits v) le t.1, t.2, subst (λ (n : ℕ). Tail g n w ps a) more (tail_on g bound limits (c + one_of g v) w ps a above t.3))

reached_on : (g : Graph) (bound : ℕ) → IsLimitBound g bound → (number v c : ℕ) → bound ≤ c → IsReached g number v c → IsReached g number v (c + 1)
reached_on g bound limits number v c le r =
    (r.0, r.1, r.2, chain_of_tail g (c + 1) v r.0 r.1 (tail_on g bound limits c v r.0 r.1 le (tail_from_chain g c v r.0 r.1 r.3)))

within_from_takes : (bound : ℕ) (r : Reach) → ((c : ℕ) → bound ≤ c → Takes r c → Takes r (c + 1)) → IsWithin bound r
within_from_takes bound No f = tt
within_from_takes bound (UpTo n) f = elim (cases_lt n bound) [ inl below ↦ below | inr above ↦ let more : n + 1 ≤ n = f n above (omega arith) in absurd (omega arith) ]
within_from_takes bound Any f = tt

-- what is offered is within the bound that the limits set
pub offers_within : (g : Graph) (bound number : ℕ) (offers : List Reach) → IsLimitBound g bound → OffersExactly g number offers → All (IsWithin bound) offers
offers_within g bound number offers limits h v d lt =
    subst (IsWithin bound) (get_or_default offers v No d lt)
    (within_from_takes bound (at_row offers v)
    (λ c le t. elim ((h v c).0 t) [ inl a ↦ (h v (c + 1)).1 (inl a) | inr x ↦ (h v (c + 1)).1 (inr (x.0, x.1, reached_on g bound limits number x.0 c le x.2)) ]))

within_of_height : (bound : ℕ) (r : Reach) → height 0 r ≤ bound → IsWithin bound r
within_of_height bound No h = tt
within_of_height bound (UpTo n) h = omega arith
within_of_height bound Any h = tt

pub limits_within : (nodes : Nodes) → IsLimitBound (graph_of nodes) (bound_of nodes)
limits_within nodes v = elim (cases_lt v (length nodes.items.items)) [
  | inl below ↦
      let x = element_at nodes.items.items v below in
      subst (IsWithin (bound_of nodes)) (sym (get_or-map (λ (n : Node). reach_of n.limit) nodes.items.items v x.0 No below))
      (within_of_height (bound_of nodes) (reach_of (get_or nodes.items.items v x.0).limit) (get_or-le-sum_by (λ (n : Node). height 0 (reach_of n.limit)) nodes.items.items v x.0 below))
  | inr above ↦
      let past : length (map (λ (n : Node). reach_of n.limit) nodes.items.items) ≤ v = simp length-map above in
      subst (IsWithin (bound_of nodes)) (sym (get_or_past (map (λ (n : Node). reach_of n.limit) nodes.items.items) v No past)) tt
]

height_within : (bound : ℕ) (r : Reach) → IsWithin bound r → height bound r ≤ bound + 1
height_within bound No h = omega arith
height_within bound (UpTo n) h = omega arith
height_within bound Any h = omega arith

cases : (m n : ℕ) → m ≤ n → (m ≡ n) ⊎ (m < n)
cases m n h = elim (cases_lt m n) [ inl lt ↦ inr lt | inr ge ↦ inl (omega arith) ]

-- a reach equals one above it, or is lower
height_rises : (bound : ℕ) (r s : Reach) → IsWithin bound r → IsAtMost r s → (r ≡ s) ⊎ (height bound r < height bound s)
height_rises bound No No h k = inl refl
height_rises bound No (UpTo n) h k = inr (omega arith)
height_rises bound No Any h k = inr (omega arith)
height_rises bound (UpTo m) No h k = absurd k
height_rises bound (UpTo m) (UpTo n) h k = elim (cases m n k) [ inl e ↦ inl (ap (λ (x : ℕ). UpTo x) e) | inr lt ↦ inr (omega arith) ]
height_rises bound (UpTo m) Any h k = inr (omega arith)
height_rises bound Any No h k = absurd k
height_rises bound Any (UpTo n) h k = absurd k
height_rises bound Any Any h k = inl refl

rank_within : (bound : ℕ) (row : List Reach) → All (IsWithin bound) row → rank bound row ≤ length row * (bound + 1)
rank_within bound [] h = omega arith
rank_within bound (r ∷ row) h =
    let e = sum_by-cons (height bound) r row in
    let a = height_within bound r (All-head (IsWithin bound) r row h) in
    let b = rank_within bound row (All-tail (IsWithin bound) r row h) in
    grind (arith, e, a, b)

rank_rises : (bound : ℕ) (r s : List Reach) → length r ≡ length s → All (IsWithin bound) r → ((v : ℕ) → IsAtMost (at_row r v) (at_row s v)) → (r ≡ s) ⊎ (rank bound r < rank bound s)
rank_rises bound [] [] e h k = inl refl
rank_rises bound [] (y ∷ s) e h k = absurd (omega arith)
rank_rises bound (x ∷ r) [] e h k = absurd (omega arith)
rank_rises bound (x ∷ r) (y ∷ s) e h k =
    let ex = sum_by-cons (height bound) x r in
    let ey = sum_by-cons (height bound) y s in
    let same : length r ≡ length s = omega arith in
    elim (height_rises bound x y (All-head (IsWithin bound) x r h) (k 0)) [
      | inl p ↦ elim (rank_rises bound r s same (All-tail (IsWithin bound) x r h) (λ v. k (suc v))) [
        | inl q ↦ inl (cc (p, q))
        | inr lt ↦ let a : height bound x ≡ height bound y = ap (height bound) p in inr (omega arith)
      ]
      | inr p ↦ elim (rank_rises bound r s same (All-tail (IsWithin bound) x r h) (λ v. k (suc v))) [
        | inl q ↦ let a : rank bound r ≡ rank bound s = ap (rank bound) q in inr (omega arith)
        | inr lt ↦ inr (omega arith)
      ]
    ]

-- offers that rise and are not stable leave less to rise
pub rank_falls : (bound : ℕ) (last next : List Reach) → length last ≡ length next → All (IsWithin bound) last → All (IsWithin bound) next → ((v : ℕ) → IsAtMost (at_row last v) (at_row next v)) → (StandsUnder next last → ⊥)
    → length next * (bound + 1) - rank bound next < length last * (bound + 1) - rank bound last
rank_falls bound last next same within within2 up moves =
    let top = rank_within bound next within2 in
    elim (rank_rises bound last next same within up) [
      | inl e ↦ absurd (moves (λ v. subst (λ (r : List Reach). IsAtMost (at_row r v) (at_row last v)) e (at_most_self (at_row last v))))
      | inr lt ↦ let eq : length last * (bound + 1) ≡ length next * (bound + 1) = ap (λ n. n * (bound + 1)) same in omega arith
    ]
