-- How many rounds a search may take: what is offered at a position needs no position twice.
use Rattle.std.proofs.Common.{◌≡◌, ℕ, ◌+◌, ◌<◌, ◌≤◌, List, [], ◌∷◌, ◌++◌, length, arith, ap, sym, ◌∙◌, subst, inl, inr, append_assoc, eqb-true}
use Rattle.std.specs.Prelude.{All, ◌⊎◌, max}
use Rattle.std.proofs.lemmas.Bool.{cases_lt, cases_eq}
use Rattle.std.proofs.lemmas.List.{get_or_past}
use Rattle.std.proofs.lemmas.List.Elements.{All-nil, All-cons, All-weaker, All-contains}
use Rattle.std.proofs.lemmas.Map.Steps.{length-le_from_distinct_below}
use Rattle.std.proofs.lemmas.Map.Views.{Contains-from_any}
use Rattle.cert_graph.specs.declared.nodes.Nodes.{Nodes}
use Rattle.cert_graph.specs.declared.reach.Reach.{Reach}
use Rattle.cert_graph.specs.declared.reach.Reach.TheVariants.{No}
use Rattle.cert_graph.specs.Reach.{Takes}
use Rattle.cert_graph.specs.Graph.{Graph, counted}
use Rattle.cert_graph.specs.Adequate.{at_row}
use Rattle.cert_graph.specs.Laws.{NamesNoneTwice}
use Rattle.cert_graph.specs.Nodes.{graph_of}
use Rattle.cert_graph.specs.Steps.{one_of, Tail, Next}
use Rattle.cert_graph.proofs.ReachFacts.{at_most_from_takes, none_taken}
use Rattle.cert_graph.proofs.Tails.{tail_drop, tail_fit, tail_takes, fit_of_tail, chain_of_tail, tail_from_chain}
use Rattle.cert_graph.proofs.PathLaws.{tail_less, no_one}
use Rattle.cert_search.specs.Rows.{StandsUnder}
use Rattle.cert_search.proofs.Answering.{distinct_of}
use Rattle.cert_search.proofs.Exactness.{OffersExactly}
use Rattle.cert_search.proofs.Walking.{tail_next}

-- a position is in a list
abbrev StandsIn : List ℕ → ℕ → Type 0
StandsIn zs v = (front : List ℕ) × (back : List ℕ) × (zs ≡ front ++ v ∷ back)

not_there : (v z : ℕ) (zs : List ℕ) → (z ≡ v → ⊥) → (StandsIn zs v → ⊥) → (front back : List ℕ) → z ∷ zs ≡ front ++ v ∷ back → ⊥
not_there v z zs other none [] back e = let same : z ≡ v = cc e in other same
not_there v z zs other none (u ∷ front) back e = let rest : zs ≡ front ++ v ∷ back = cc e in none (front, back, rest)

stands_or_not : (v : ℕ) (zs : List ℕ) → StandsIn zs v ⊎ (StandsIn zs v → ⊥)
stands_or_not v [] = inr (λ s. no_one v s.0 s.1 s.2)
stands_or_not v (z ∷ zs) = elim (cases_eq z v) [
  | inl same ↦ inl ([], zs, ap (λ (u : ℕ). u ∷ zs) same)
  | inr other ↦ elim (stands_or_not v zs) [
    | inl s ↦ inl (z ∷ s.0, s.1, ap (λ (ys : List ℕ). z ∷ ys) s.2)
    | inr none ↦ inr (λ s. not_there v z zs other none s.0 s.1 s.2)
  ]
]

-- lists without a position twice: one position more in front, and the end from a position on
once_more : (v : ℕ) (zs : List ℕ) → NamesNoneTwice zs → (StandsIn zs v → ⊥) → NamesNoneTwice (v ∷ zs)
once_more v zs once none [] between back u e =
    let same : v ≡ u = cc e in
    let rest : zs ≡ between ++ u ∷ back = cc e in
    none (between, back, subst (λ (x : ℕ). zs ≡ between ++ x ∷ back) (sym same) rest)
once_more v zs once none (x ∷ front) between back u e =
    let rest : zs ≡ front ++ u ∷ (between ++ u ∷ back) = cc e in once front between back u rest

once_end : (front : List ℕ) (v : ℕ) (back : List ℕ) → NamesNoneTwice (front ++ v ∷ back) → NamesNoneTwice (v ∷ back)
once_end front v back once ahead between after u e =
    once (front ++ ahead) between after u (ap (λ (zs : List ℕ). front ++ zs) e ∙ sym (append_assoc front ahead (u ∷ (between ++ u ∷ after))))

once_alone : (v : ℕ) → NamesNoneTwice (v ∷ [])
once_alone v = once_more v [] (λ front between back u e. no_one u front (between ++ u ∷ back) e) (λ s. no_one v s.0 s.1 s.2)

-- what may follow a certificate, and a chain from its first on
next_less : (g : Graph) (c d v : ℕ) (ps : List ℕ) (a : ℕ) → d ≤ c → Next g v c ps a → Next g v d ps a
next_less g c d v [] a le n = n
next_less g c d v (w ∷ ps) a le n = (n.0, tail_less g c d w ps a le n.1)

next_of_tail : (g : Graph) (c v : ℕ) (ps : List ℕ) (a : ℕ) → Tail g c v ps a → Next g v (c + one_of g v) ps a
next_of_tail g c v [] a t = t.2
next_of_tail g c v (w ∷ ps) a t = (t.2, t.3)

-- if a position is in a chain, the rest of the chain may follow it
next_within : (g : Graph) (c w : ℕ) (ps : List ℕ) (a : ℕ) → Tail g c w ps a → (front : List ℕ) (v : ℕ) (back : List ℕ) → w ∷ ps ≡ front ++ v ∷ back → Next g v c back a
next_within g c w ps a t [] v back e =
    let same : w ≡ v = cc e in
    let rest : ps ≡ back = cc e in
    let n : Next g w c ps a = next_less g (c + one_of g w) c w ps a (omega arith) (next_of_tail g c w ps a t) in
    subst (λ (u : ℕ). Next g u c back a) same (subst (λ (qs : List ℕ). Next g w c qs a) rest n)
next_within g c w ps a t (u ∷ front) v back e =
    let rest : ps ≡ front ++ v ∷ back = cc e in
    let end = tail_drop g c w front v back a (subst (λ (qs : List ℕ). Tail g c w qs a) rest t) in
    next_less g ((c + counted g (w ∷ front)) + one_of g v) c v back a (omega arith) (next_of_tail g (c + counted g (w ∷ front)) v back a end)

-- loops may be left out of what follows a certificate
next_once : (g : Graph) (v c : ℕ) (ps : List ℕ) (a : ℕ) → Next g v c ps a → (rest : List ℕ) × NamesNoneTwice (v ∷ rest) × Next g v c rest a
next_once g v c [] a n = ([], once_alone v, n)
next_once g v c (w ∷ ps) a n =
    let x = next_once g w (c + one_of g w) ps a (next_of_tail g c w ps a n.1) in
    let t : Tail g c w x.0 a = tail_next g c w x.0 a (tail_fit g c w ps a n.1) (tail_takes g c w ps a n.1) x.2 in
    elim (stands_or_not v (w ∷ x.0)) [
      | inl s ↦ (s.1, once_end s.0 v s.1 (subst NamesNoneTwice s.2 x.1), next_within g c w x.0 a t s.0 v s.1 s.2)
      | inr none ↦ (w ∷ x.0, once_more v (w ∷ x.0) x.1 none, (n.0, t))
    ]

-- each fit position is that of an item
abbrev pub FitIsItem : Graph → Type 0
FitIsItem g = (v : ℕ) → g.Fit v → v < g.items

pub fit_is_item : (nodes : Nodes) → FitIsItem (graph_of nodes)
fit_is_item nodes v fit = fit.0

fit_of_next : (g : Graph) (v c : ℕ) (ps : List ℕ) (a : ℕ) → Next g v c ps a → All g.Fit ps
fit_of_next g v c [] a n = All-nil g.Fit
fit_of_next g v c (w ∷ ps) a n = fit_of_tail g c w ps a n.1

-- positions of items, none of them twice, are no more than the items
next_short : (g : Graph) → FitIsItem g → (v c : ℕ) (ps : List ℕ) (a : ℕ) → v < g.items → NamesNoneTwice (v ∷ ps) → Next g v c ps a → length (v ∷ ps) ≤ g.items
next_short g fi v c ps a inside once n =
    let below : All (λ (u : ℕ). u < g.items) (v ∷ ps) = All-cons (λ (u : ℕ). u < g.items) v ps inside (All-weaker g.Fit (λ (u : ℕ). u < g.items) fi ps (fit_of_next g v c ps a n)) in
    length-le_from_distinct_below (v ∷ ps) g.items (distinct_of (v ∷ ps) once)
    (λ q e. All-contains (λ (u : ℕ). u < g.items) (v ∷ ps) q below (Contains-from_any (λ x y t. eqb-true x y t) q (v ∷ ps) e))

-- an exact offer takes a count if something may follow there
offer_next : (g : Graph) (n : ℕ) (offers : List Reach) → OffersExactly g n offers → (v c : ℕ) → Takes (at_row offers v) c → (ps : List ℕ) × (a : ℕ) × Next g v c ps a
offer_next g n offers h v c t = elim ((h v c).0 t) [
  | inl x ↦ ([], x.0, x.1)
  | inr x ↦ let r = x.2 in (x.0 ∷ r.0, r.1, (x.1, tail_from_chain g c x.0 r.0 r.1 r.3))
]

next_offered : (g : Graph) (n : ℕ) (offers : List Reach) → OffersExactly g n offers → (v c : ℕ) (ps : List ℕ) (a : ℕ) → length ps ≤ n → Next g v c ps a → Takes (at_row offers v) c
next_offered g n offers h v c [] a short x = (h v c).1 (inl (a, x))
next_offered g n offers h v c (w ∷ ps) a short x = (h v c).1 (inr (w, x.0, (ps, a, short, chain_of_tail g c w ps a x.1)))

-- what is offered over all items but one is offered over any number
offers_settled : (g : Graph) → FitIsItem g → (m n : ℕ) (last next : List Reach) → g.items ≤ m + 1 → length next ≡ g.items → OffersExactly g m last → OffersExactly g n next → StandsUnder next last
offers_settled g fi m n last next enough whole h k v = at_most_from_takes (at_row next v) (at_row last v) (λ c t. elim (cases_lt v g.items) [
  | inl inside ↦
      let x = offer_next g n next k v c t in
      let y = next_once g v c x.0 x.1 x.2 in
      let few : length (v ∷ y.0) ≤ g.items = next_short g fi v c y.0 x.1 inside y.1 y.2 in
      next_offered g m last h v c y.0 x.1 (omega arith) y.2
  | inr past ↦ let none : length next ≤ v = omega arith in absurd (none_taken (at_row next v) c (get_or_past next v No none) t)
])

-- so a round after which an offer rose leaves room for one more
pub rises_early : (g : Graph) → FitIsItem g → (n : ℕ) (last next : List Reach) → length next ≡ g.items → OffersExactly g n last → OffersExactly g (n + 1) next → (StandsUnder next last → ⊥) → n + 1 < max 1 g.items
rises_early g fi n last next whole h k moves = elim (cases_lt (n + 1) g.items) [
  | inl early ↦ omega arith
  | inr enough ↦ absurd (moves (offers_settled g fi n (n + 1) last next enough whole h k))
]
