-- What a search returns is adequate, and its table is exact and short.
use Rattle.std.proofs.Common.{◌≡◌, ℕ, zero, suc, ◌+◌, ◌<◌, ◌≤◌, false, List, [], ◌∷◌, ◌++◌, length, arith, ap, sym, subst, refl, inl, inr, eqb, eqb-true, ne_eqb}
use Rattle.std.specs.Prelude.{◌⊎◌}
use Rattle.std.specs.List.{IsDistinct, AllByRecursion}
use Rattle.std.proofs.lemmas.List.Elements.{All-nil, All-contains}
use Rattle.std.proofs.lemmas.Map.Steps.{length-le_from_distinct_below}
use Rattle.std.proofs.lemmas.Map.Views.{Contains-from_any}
use Rattle.cert_graph.specs.declared.reach.Reach.{Reach}
use Rattle.cert_graph.specs.declared.nodes.Nodes.{Nodes}
use Rattle.cert_graph.specs.declared.answer.Answer.{Answer}
use Rattle.cert_graph.specs.declared.answer.Answer.TheVariants.{Path, NoPath, NoTarget}
use Rattle.cert_graph.specs.Graph.{Graph}
use Rattle.cert_graph.specs.Adequate.{at_row, row_of, rows_of, HasAnchored, IsAdequate, IsAdequatePath, IsAdequateNone}
use Rattle.cert_graph.specs.Laws.{FitIsUsable, NamesNoneTwice}
use Rattle.cert_graph.specs.Nodes.{graph_of}
use Rattle.cert_graph.proofs.ReachFacts.{no_takes}
use Rattle.cert_graph.proofs.PathLaws.{valid_from, no_two, only, first_names_none_twice}
use Rattle.cert_graph.proofs.True.{first_path}
use Rattle.cert_graph.proofs.NodeFacts.{fit_is_usable}
use Rattle.cert_search.specs.Exact.{HoldsExactly, HoldsAll, HoldsNoElsewhere, IsShort}
use Rattle.cert_graph.specs.Least.{IsLeast}
use Rattle.cert_search.specs.Rows.{IsFixed, Opens}
use Rattle.cert_search.specs.Found.{IsAlone}
use Rattle.cert_search.proofs.Exactness.{fixed_anchored, fixed_successor, fixed_holds_all, exact_no_elsewhere}

-- a path of the target alone
pub alone_path : (g : Graph) → FitIsUsable g → (target anchor : ℕ) → g.Usable target → IsLeast (g.AnchorEdge target) anchor → IsAdequatePath g target (target ∷ []) anchor []
alone_path g fu target anchor usable least = record {
  valid = valid_from g fu target [] anchor (usable, least.0);
  count = omega arith;
  whole = All-nil (λ (row : List Reach). length row ≡ g.items);
  anchored = All-nil (HasAnchored g);
  successors = λ k lt. absurd (omega arith);
  least_anchor = λ front v e b lt edge. least.1 b lt (subst (λ (u : ℕ). g.AnchorEdge u b) (sym (only target v front e)) edge);
  not_alone = λ two b e. absurd (omega arith);
  not_shorter = λ k w e fit edge. absurd (omega arith);
  not_smaller = λ front back v p w e lt fit edge takes. absurd (no_two target v p front back e);
}

-- a fixed row that does not open the target
pub none_adequate : (g : Graph) (target : ℕ) (row : List Reach) → g.IsCertificate target → length row ≡ g.items → IsFixed g row → (Opens g target row → ⊥)
    → ((g.Usable target → ⊥) ⊎ (g.Usable target × ((b : ℕ) → g.AnchorEdge target b → ⊥))) → IsAdequateNone g target (row ∷ [])
none_adequate g target row cert whole k shut c = record {
  certificate = cert;
  row = row;
  one = refl;
  whole = whole;
  anchored = fixed_anchored g row k;
  fixed = fixed_successor g row k;
  closed = elim c [
    | inl unusable ↦ inl unusable
    | inr x ↦ inr (x.1, λ w fit edge. no_takes (at_row row w) (λ t. shut (x.0, inr (w, fit, edge, t))))
  ];
}

-- the answers that the code makes of these
pub alone_adequate : (g : Graph) → FitIsUsable g → (target anchor : ℕ) → g.Usable target → IsLeast (g.AnchorEdge target) anchor → (answer : Answer) → IsAlone target anchor answer → IsAdequate g target answer
alone_adequate g fu target anchor usable least (Path ps a table) h =
    subst (λ (qs : List ℕ). IsAdequatePath g target qs a (rows_of table)) (sym h.0)
    (subst (λ (b : ℕ). IsAdequatePath g target (target ∷ []) b (rows_of table)) (sym h.1)
    (subst (λ (rows : List (List Reach)). IsAdequatePath g target (target ∷ []) anchor rows) (sym h.2) (alone_path g fu target anchor usable least)))
alone_adequate g fu target anchor usable least (NoPath table) h = absurd h
alone_adequate g fu target anchor usable least NoTarget h = absurd h

only_row : (g : Graph) (row : List Reach) → HoldsAll g row × HoldsNoElsewhere g row → (k : ℕ) → k < length (row ∷ []) → HoldsAll g (row_of (row ∷ []) k) × HoldsNoElsewhere g (row_of (row ∷ []) k)
only_row g row p zero lt = p
only_row g row p (suc k) lt = absurd (omega arith)

pub one_row_exact : (g : Graph) (number : ℕ) (row : List Reach) → HoldsExactly g number row → IsFixed g row → (k : ℕ) → k < length (row ∷ []) → HoldsAll g (row_of (row ∷ []) k) × HoldsNoElsewhere g (row_of (row ∷ []) k)
one_row_exact g number row exact k = only_row g row (fixed_holds_all g number row exact k, exact_no_elsewhere g number row exact)

-- positions of which none comes twice are distinct
apart : (x : ℕ) (ys : List ℕ) → ((between back : List ℕ) → ys ≡ between ++ x ∷ back → ⊥) → AllByRecursion (λ y. eqb x y ≡ false) ys
apart x [] h = tt
apart x (y ∷ ys) h = (
  ne_eqb x y (λ e. h [] ys (ap (λ (z : ℕ). z ∷ ys) (sym e))),
  apart x ys (λ between back e. h (y ∷ between) back (ap (λ zs. y ∷ zs) e)),
)

pub distinct_of : (ps : List ℕ) → NamesNoneTwice ps → IsDistinct eqb ps
unfolding IsDistinct
distinct_of [] h = tt
distinct_of (x ∷ ps) h = (
  apart x ps (λ between back e. h [] between back x (ap (λ zs. x ∷ zs) e)),
  distinct_of ps (λ front between back v e. h (x ∷ front) between back v (ap (λ zs. x ∷ zs) e)),
)

-- so a path has no more positions than there are items, and its table fewer rows
pub path_short : (nodes : Nodes) (target : ℕ) (ps : List ℕ) (a : ℕ) (rows : List (List Reach)) → IsAdequatePath (graph_of nodes) target ps a rows → NamesNoneTwice ps × (length ps ≤ length nodes.items.items)
path_short nodes target ps a rows h =
    let once : NamesNoneTwice ps = first_names_none_twice (graph_of nodes) (fit_is_usable nodes) target ps a (first_path (graph_of nodes) target ps a rows h) in (
      once,
      length-le_from_distinct_below ps (length nodes.items.items) (distinct_of ps once)
          (λ q e. (All-contains (graph_of nodes).Usable ps q h.valid.usable (Contains-from_any (λ x y t. eqb-true x y t) q ps e)).0),
    )

pub adequate_short : (nodes : Nodes) (target : ℕ) (answer : Answer) → IsAdequate (graph_of nodes) target answer → IsShort (graph_of nodes) answer
adequate_short nodes target (Path ps a table) h =
    let short = path_short nodes target ps.items a (rows_of table) h in
    let few = short.1 in
    let count : length (rows_of table) + 1 ≡ length ps.items = h.count in
    (short.0, omega arith)
adequate_short nodes target (NoPath table) h = tt
adequate_short nodes target NoTarget h = tt
