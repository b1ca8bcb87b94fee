-- The example's inventory, part by part.
use Rattle.std.proofs.Common.{◌≡◌, ℕ, zero, suc, ◌+◌, ◌-◌, ◌<◌, List, [], ◌∷◌, length, take, drop, arith, subst, refl, inr}
use Rattle.std.specs.Prelude.{All, ◌↔◌}
use Rattle.cert_graph.specs.declared.reach.Reach.{Reach}
use Rattle.cert_graph.specs.declared.reach.Reach.TheVariants.{No, UpTo}
use Rattle.cert_graph.specs.Reach.{IsAtMost}
use Rattle.cert_graph.specs.Graph.{IsValidPath, EndsIn}
use Rattle.cert_graph.specs.Adequate.{at_row, row_of, HasAnchored, HasAnchoredAt, IsSuccessor, IsAdequatePath, IsAdequateNone}
use Rattle.cert_graph.specs.Laws.{FitIsUsable}
use Rattle.cert_graph.specs.Steps.{Lowest}
use Rattle.cert_graph.specs.Tables.{IsTable, IsShortest}
use Rattle.cert_graph.specs.Examples.{four_items, two_rows, ExampleOfAnInventory}
use Rattle.cert_graph.proofs.PathLaws.{valid_from}
use Rattle.cert_graph.proofs.TableFacts.{path_iff}
use Rattle.cert_graph.proofs.Sharing.{table_take}

anchored : HasAnchored four_items (UpTo 0 ∷ No ∷ No ∷ No ∷ [])
unfolding HasAnchoredAt
anchored v a fit edge =
    let same : 0 ≡ v = omega (arith, fit) in
    subst (λ (u : ℕ). IsAtMost (UpTo 0) (at_row (UpTo 0 ∷ No ∷ No ∷ No ∷ []) u)) same (omega arith)

-- what is fit is linked to nothing
follows : (r s : List Reach) → IsSuccessor four_items r s
follows r s v w fv fw edge = let other = edge.0 in absurd (omega (arith, fv, other))

each_row : (P : List Reach → Type 0) → P (UpTo 0 ∷ No ∷ No ∷ No ∷ []) → All P two_rows
each_row P p zero d lt = p
each_row P p (suc zero) d lt = p
each_row P p (suc (suc k)) d lt = absurd (omega arith)

table : IsTable four_items two_rows
table = record {
  whole = each_row (λ row. length row ≡ 4) refl;
  anchored = each_row (HasAnchored four_items) anchored;
  successors = λ k lt. follows (row_of two_rows k) (row_of two_rows (k + 1));
}

usable : FitIsUsable four_items
usable v fit = omega (arith, fit)

first_valid : IsValidPath four_items 0 (0 ∷ []) 0
first_valid = valid_from four_items usable 0 [] 0 (omega arith, (refl, refl))

second_valid : IsValidPath four_items 1 (1 ∷ 0 ∷ []) 0
second_valid = valid_from four_items usable 1 (0 ∷ []) 0 (omega arith, (refl, refl), (refl, omega arith, (refl, refl)))

no_smaller : (ps : List ℕ) → EndsIn (λ v. (b : ℕ) → b < 0 → four_items.AnchorEdge v b → ⊥) ps
no_smaller ps front v e b lt edge = omega (arith, lt)

first : IsAdequatePath four_items 0 (0 ∷ []) 0 (take 0 two_rows)
first =
    let short : IsShortest four_items 0 (take 0 two_rows) = record { not_alone = λ some b edge. omega (arith, some); not_shorter = λ k e. absurd (omega (arith, e)) } in
    let by : Lowest four_items (take 0 two_rows) 0 0 [] ↔ IsAdequatePath four_items 0 (0 ∷ []) 0 (take 0 two_rows) =
    path_iff four_items 0 (0 ∷ []) [] 0 (take 0 two_rows) refl refl first_valid (table_take four_items two_rows 0 table) (no_smaller (0 ∷ [])) short (λ p. p, λ p. p) in
    by.0 tt

second : IsAdequatePath four_items 1 (1 ∷ 0 ∷ []) 0 (take 1 two_rows)
second =
    let short : IsShortest four_items 1 (take 1 two_rows) = record { not_alone = λ some b edge. (let other = edge.0 in omega (arith, other)); not_shorter = λ k e. absurd (omega (arith, e)) } in
    let by : Lowest four_items (take 1 two_rows) 1 0 (0 ∷ []) ↔ IsAdequatePath four_items 1 (1 ∷ 0 ∷ []) 0 (take 1 two_rows) =
    path_iff four_items 1 (1 ∷ 0 ∷ []) (0 ∷ []) 0 (take 1 two_rows) refl refl second_valid (table_take four_items two_rows 1 table) (no_smaller (1 ∷ 0 ∷ [])) short (λ p. p, λ p. p) in
    by.0 (λ u lt m. omega (arith, lt), tt)

third : IsAdequateNone four_items 2 (drop (length two_rows - 1) two_rows)
third = record {
  certificate = omega arith;
  row = UpTo 0 ∷ No ∷ No ∷ No ∷ [];
  one = refl;
  whole = refl;
  anchored = anchored;
  fixed = follows (UpTo 0 ∷ No ∷ No ∷ No ∷ []) (UpTo 0 ∷ No ∷ No ∷ No ∷ []);
  closed = inr (λ b edge. let other = edge.0 in omega (arith, other), λ w fit edge. let other = edge.0 in absurd (omega (arith, other)));
}

pub inventory_of_four : ExampleOfAnInventory
inventory_of_four = record {
  table = table;
  stands = λ k e. follows (row_of two_rows k) (row_of two_rows k);
  first = first;
  second = second;
  third = third;
  fourth = λ h. omega (arith, h);
}
