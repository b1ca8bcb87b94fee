-- What is found of the bundle: no path from the first, one from the second over the third, and one from the third alone.
use Rattle.std.specs.Prelude.{◌↔◌, IsTrue}
use Rattle.std.proofs.Common.{◌≡◌, ◌∙◌, ap, sym, subst, refl, zero, suc, ℕ, ◌<◌, true, List, [], ◌∷◌, ◌++◌, drop, length, length-append, get_or, arith, lit<, lit≤, Global}
use Rattle.std.proofs.lemmas.List.Elements.{All-from_recursion}
use Rattle.cert_graph.specs.Adequate.{HasAnchored, IsAdequate, IsAdequatePath, at_row, issuers_of, row_of}
use Rattle.cert_graph.specs.Graph.{Graph, IsReached, IsValidPath, counted}
use Rattle.cert_graph.specs.Inventory.{IsAdequateInventory, IsAdequateVerdict, OfEach, StandsAtLast}
use Rattle.cert_graph.specs.Reach.{Takes}
use Rattle.cert_graph.specs.Tables.{IsTable}
use Rattle.cert_graph.specs.declared.answer.Answer.TheVariants.{NoPath}
use Rattle.cert_graph.specs.declared.reach.Reach.{Reach}
use Rattle.cert_graph.proofs.PathLaws.{no_two, valid_from}
use Rattle.cert_graph.proofs.Tails.{chain_of_tail, fixed_takes, tail_from_chain}
use Rattle.cert_graph.proofs.True.{adequate_is_true}
use Rattle.cert_model.specs.Class.{IsClassOf}
use Rattle.cert_search.specs.Exact.{HoldsAll, HoldsNoElsewhere}
use Rattle.cert_judge.specs.Classed.{AreClassed}
use Rattle.cert_judge.specs.Revoking.{Item}
use Rattle.cert_judge.proofs.Examples.{none as of_none, one}
use Rattle.cert_judge.proofs.Linking.{fit_is_usable}
use Rattle.certpath_run.specs.Answered.{HoldsOfItems, IsFound}
use Rattle.certpath_why.specs.Bounds.{IsHeldBack, reach_by}
use Rattle.laws_paths.specs.Found.{all_found, anchor_octets, limited_octets, path_found}
use Rattle.laws_paths.specs.Worked.{no_row, under_d}
use Rattle.laws_paths.proofs.OfBound.{anchored, b_under_c, c_under_anchor, fit_b, fit_c, follows, items, limited, none, plain_b, row, rules, second_not_anchored, unlike}
use Rattle.laws_paths.proofs.OfItems.{anchor_item, b_item, c_item, issued_item}

-- ---- the one row is exact

taken : (v c : ℕ) → Takes (at_row row v) c → (number : ℕ) × IsReached limited number v c
taken zero c t = absurd t
taken (suc zero) c t = absurd t
taken (suc (suc zero)) c t = (1, ([], 0, lit≤ tt, chain_of_tail limited c 2 [] 0 (fit_c, t, c_under_anchor)))
taken (suc (suc (suc v))) c t = absurd t

holds_all : HoldsAll limited row
holds_all v c = (taken v c, λ r. let h = r.1 in fixed_takes limited row anchored follows h.0 c v h.1 (tail_from_chain limited c v h.0 h.1 h.3))

no_elsewhere : HoldsNoElsewhere limited row
no_elsewhere zero unfit = refl
no_elsewhere (suc zero) unfit = refl
no_elsewhere (suc (suc zero)) unfit = absurd (unfit fit_c)
no_elsewhere (suc (suc (suc v))) unfit = refl

exact : (k : ℕ) → k < 1 → HoldsAll limited (row_of (row ∷ []) k) × HoldsNoElsewhere limited (row_of (row ∷ []) k)
exact zero lt = (holds_all, no_elsewhere)
exact (suc k) lt = absurd (omega (arith, lt))

-- ---- paths

over_c : IsValidPath limited 1 (1 ∷ 2 ∷ []) 0
over_c =
    valid_from limited (fit_is_usable rules items under_d) 1 (2 ∷ []) 0
    (fit_is_usable rules items under_d 1 fit_b, b_under_c, (fit_c, omega arith, c_under_anchor))

alone : IsValidPath limited 2 (2 ∷ []) 0
alone = valid_from limited (fit_is_usable rules items under_d) 2 [] 0 (fit_is_usable rules items under_d 2 fit_c, c_under_anchor)

-- of the two positions the second is 2, and nothing follows it
second_is : (front back : List ℕ) (v p : ℕ) → 1 ∷ 2 ∷ [] ≡ front ++ v ∷ p ∷ back → (p ≡ 2) × (back ≡ [])
second_is [] back v p e = (sym (ap (λ (s : List ℕ). get_or s 1 0) e), sym (ap (λ (s : List ℕ). drop 2 s) e))
second_is (x ∷ front) back v p e = let long = ap (λ (s : List ℕ). length s) e ∙ ap suc (length-append front (v ∷ p ∷ back)) in absurd (omega (arith, long))

none_taken : (w c : ℕ) → w < 2 → Takes (at_row row w) c → ⊥
none_taken zero c lt t = t
none_taken (suc zero) c lt t = t
none_taken (suc (suc w)) c lt t = omega (arith, lt)

no_smaller : (front back : List ℕ) (v p w : ℕ) → 1 ∷ 2 ∷ [] ≡ front ++ v ∷ p ∷ back → w < p → Takes (at_row (row_of (row ∷ []) (length back)) w) (counted limited (issuers_of (front ++ v ∷ []))) → ⊥
no_smaller front back v p w e lt t =
    let is = second_is front back v p e in
    let count = counted limited (issuers_of (front ++ v ∷ [])) in
    none_taken w count (subst (λ (n : ℕ). w < n) is.0 lt) (subst (λ (b : List ℕ). Takes (at_row (row_of (row ∷ []) (length b)) w) count) is.1 t)

path : IsAdequatePath limited 1 (1 ∷ 2 ∷ []) 0 (row ∷ [])
path = record {
  valid = over_c;
  count = refl;
  whole = one (λ (r : List Reach). length r ≡ 3) row refl;
  anchored = one (HasAnchored limited) row anchored;
  successors = λ k lt. absurd (omega (arith, lt));
  least_anchor = λ front v e b lt edge. omega (arith, lt);
  not_alone = λ some b edge. second_not_anchored b edge;
  not_shorter = λ k w e. absurd (omega (arith, e));
  not_smaller = λ front back v p w e lt fw edge t. no_smaller front back v p w e lt t;
}

path_alone : IsAdequatePath limited 2 (2 ∷ []) 0 []
path_alone = record {
  valid = alone;
  count = refl;
  whole = of_none (λ (r : List Reach). length r ≡ 3);
  anchored = of_none (HasAnchored limited);
  successors = λ k lt. absurd (omega (arith, lt));
  least_anchor = λ front v e b lt edge. omega (arith, lt);
  not_alone = λ some b edge. omega (arith, some);
  not_shorter = λ k w e. absurd (omega (arith, e));
  not_smaller = λ front back v p w e lt fw edge t. no_two 2 v p front back e;
}

-- ---- all verdicts

table : IsTable limited (row ∷ [])
table = record {
  whole = one (λ (r : List Reach). length r ≡ 3) row refl;
  anchored = one (HasAnchored limited) row anchored;
  successors = λ k lt. absurd (omega (arith, lt));
}

stands : StandsAtLast limited (row ∷ [])
stands zero e = follows
stands (suc k) e = absurd (omega (arith, e))

module _ (alloc : Global) where
  each : OfEach (IsAdequateVerdict limited (row ∷ [])) (all_found alloc).verdicts.items
  each zero lt d = none alloc
  each (suc zero) lt d = path
  each (suc (suc zero)) lt d = path_alone
  each (suc (suc (suc target))) lt d = absurd (omega (arith, lt))

  pub inventory : IsAdequateInventory limited (all_found alloc)
  inventory = record { table = table; stands = stands; count = refl; each = each }

  pub adequate_path : IsAdequate limited 1 (path_found alloc)
  adequate_path = path

  pub found : IsFound limited 0 (NoPath (no_row alloc))
  found = record { adequate = none alloc; holds = adequate_is_true limited 0 (NoPath (no_row alloc)) (none alloc); exact = exact; short = tt }

  -- b's certificate is held back from c's
  pub held_back : IsHeldBack rules items (reach_by (NoPath (no_row alloc))) 1 2
  held_back = record { leads_nowhere = refl; counts = (lit< tt, λ d. (plain_b, refl, unlike 0x62 0x63 (λ e. omega (arith, e)))); linked = b_under_c; bounded = refl }

-- ---- the items that are read

items_classed : AreClassed limited_octets items
items_classed = record { octets_are = refl; classes = All-from_recursion (λ (x : Item). IsClassOf x.octets x.class) items (issued_item, (b_item, (c_item, tt))) }

anchors_classed : AreClassed anchor_octets under_d
anchors_classed = record { octets_are = refl; classes = All-from_recursion (λ (x : Item). IsClassOf x.octets x.class) under_d (anchor_item, tt) }

-- what the graph has, its octets have
pub of_octets : (P : Graph → Type 0) → P limited → HoldsOfItems rules limited_octets anchor_octets P
of_octets P p = (items, under_d, items_classed, anchors_classed, p)

pub checked : (P : Graph → Type 0) → P limited → HoldsOfItems rules limited_octets anchor_octets (λ g. IsTrue true ↔ P g) × HoldsOfItems rules limited_octets anchor_octets P
checked P p = (of_octets (λ g. IsTrue true ↔ P g) (λ said. p, λ holds. refl), of_octets P p)
