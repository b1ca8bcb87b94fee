-- The limits of the graph of items are those of the grammar, and no path depends on others.
use Rattle.std.specs.Prelude.{◌↔◌}
use Rattle.std.proofs.Common.{◌≡◌, ◌∙◌, ap, sym, subst, refl, zero, suc, ℕ, ◌<◌, Option, Some, None, option_map, List, [], ◌∷◌, false, map, length, arith, get_or, lit<}
use Rattle.std.proofs.lemmas.List.{get_or-map, get_or_default}
use Rattle.cert_graph.specs.declared.answer.Answer.{Answer}
use Rattle.cert_graph.specs.declared.inventory.Inventory.{Inventory}
use Rattle.cert_graph.specs.declared.inventory.Verdict.{Verdict}
use Rattle.cert_graph.specs.declared.inventory.Verdict.TheVariants.{FirstPath, Pathless, NoCertificate}
use Rattle.cert_graph.specs.declared.reach.Reach.{Reach}
use Rattle.cert_graph.specs.declared.reach.Reach.TheVariants.{No, UpTo, Any}
use Rattle.cert_graph.specs.Adequate.{IsAdequate, IsTrueAnswer}
use Rattle.cert_graph.specs.Graph.{Graph, IsValidPath, IsFirstPath, HasNoPath}
use Rattle.cert_graph.specs.Inventory.{IsTrueVerdict, IsAdequateInventory, IsTrueInventory}
use Rattle.cert_graph.specs.Laws.{FitIsUsable, Agrees}
use Rattle.cert_graph.specs.Reach.{reach_of}
use Rattle.cert_graph.proofs.Agreeing.{agreed_adequate, agreed_back, agreed_fit, agreed_true, valid_same}
use Rattle.cert_graph.proofs.AgreeingInventories.{agreed_inventory}
use Rattle.cert_model.specs.Class.{certificate}
use Rattle.cert_model.specs.Examples.{authority_b, issued_by_b}
use Rattle.cert_model.specs.Extended.{SomeUnder, basic_constraints}
use Rattle.cert_model.specs.Fields.{Certificate}
use Rattle.cert_judge.specs.Constraints.{value_of}
use Rattle.cert_judge.specs.Examples.{in_june}
use Rattle.cert_judge.specs.Further.{any_identifier}
use Rattle.cert_judge.specs.ItemGraph.{graph_of_items, limit_of}
use Rattle.cert_judge.specs.Items.{rules_at}
use Rattle.cert_judge.specs.Judging.{HasPathLen, MayIssue}
use Rattle.cert_judge.specs.Revoking.{Item, JudgingContext}
use Rattle.cert_judge.proofs.ExampleLaws.{path_by_both}
use Rattle.cert_judge.proofs.Examples.{authority_is_fit, length_is_zero}
use Rattle.cert_judge.proofs.FurtherFacts.{fit_more}
use Rattle.cert_judge.proofs.Grouping.{element, one_certificate}
use Rattle.cert_judge.proofs.Linking.{fit_is_usable}
use Rattle.cert_judge.proofs.PathLimits.{limit_is}
use Rattle.laws_judge.specs.PathLengths.{AreLimits, HasPathLenAt, IsFitWith, with_limits}
use Rattle.laws_judge.specs.Worked.{by_hand, first_two, two_items, under_c}

-- ---- one path length constraint for each fit issuer

-- extensions that let a certificate issue others have a path length constraint, or none
length_of : (c : Certificate) → MayIssue c.extensions → (n : Option ℕ) × SomeUnder basic_constraints (HasPathLen n) c.extensions
unfolding SomeUnder
length_of c m =
    let s = m.authority in
    let b = s.3 in
    (option_map value_of b.0.path_len, (s.0, s.1, s.2, (b.0, b.1, b.2, refl)))

reach_one : (n m : Option ℕ) → reach_of n ≡ reach_of m → n ≡ m
reach_one None None e = refl
reach_one None (Some k) e = absurd cc
reach_one (Some j) None e = absurd cc
reach_one (Some j) (Some k) e = cc

module _ (r : JudgingContext) (items : List Item) where
  -- what the graph takes from the octets is the path length constraint of the grammar
  pub own_limit : (v : ℕ) (n : Option ℕ) → HasPathLenAt r items v n → get_or (map (λ (x : Item). limit_of x.class) items) v No ≡ reach_of n
  own_limit v n h =
      let x = (element items v h.0).0 in
      let f = h.1 x in
      get_or-map (λ (y : Item). limit_of y.class) items v x No h.0 ∙ ap limit_of f.1
      ∙ limit_is r.moment f.0 n (fit_more (r.Processes (get_or items v x).octets) any_identifier r.moment f.0 (λ id p. tt) f.2.0) f.2.1

  pub one_length : (v : ℕ) (n m : Option ℕ) → HasPathLenAt r items v n → HasPathLenAt r items v m → n ≡ m
  one_length v n m h k = reach_one n m (sym (own_limit v n h) ∙ own_limit v m k)

  module _ (anchors : List Item) where
    abbrev g : Graph
    g = graph_of_items r items anchors

    pub fit_has : (v : ℕ) → g.Fit v ↔ ((n : Option ℕ) × HasPathLenAt r items v n)
    fit_has v = (
      λ h.
          let x = (element items v h.0).0 in
          let f = h.1 x in
          let p = length_of f.0 f.2.issues in
          (p.0, (h.0, λ d. subst (IsFitWith r p.0) (get_or_default items v x d h.0) (f.0, f.1, (f.2, p.1)))),
      λ k. (k.1.0, λ d. let f = k.1.1 d in (f.0, f.1, f.2.0)),
    )

    -- ---- other limits

    module _ (limit : ℕ → Reach) (are : AreLimits r items limit) where
      abbrev h : Graph
      h = with_limits limit g

      agree : Agrees g h
      agree = record {
        items = refl;
        certificate = λ v. (λ x. x, λ x. x);
        usable = λ v. (λ x. x, λ x. x);
        fit = λ v. (λ x. x, λ x. x);
        self_issued = λ v. refl;
        limit = λ v fit. let n = (fit_has v).0 fit in are v n.0 n.1 ∙ sym (own_limit v n.0 n.1);
        edge = λ v w fit. (λ x. x, λ x. x);
        anchored = λ v a. (λ x. x, λ x. x);
      }

      usable : FitIsUsable g
      usable = fit_is_usable r items anchors

      pub valid : (target : ℕ) (ps : List ℕ) (a : ℕ) → IsValidPath h target ps a ↔ IsValidPath g target ps a
      valid target ps a = (valid_same h g (agreed_back g h agree) usable target ps a, valid_same g h agree (agreed_fit g h agree usable) target ps a)

      pub first : (target : ℕ) (ps : List ℕ) (a : ℕ) → IsFirstPath h target ps a ↔ IsFirstPath g target ps a
      first target ps a = (
        λ k. record { valid = (valid target ps a).0 k.valid; first = λ qs b v before. k.first qs b ((valid target qs b).1 v) before },
        λ k. record { valid = (valid target ps a).1 k.valid; first = λ qs b v before. k.first qs b ((valid target qs b).0 v) before },
      )

      pub none : (target : ℕ) → HasNoPath h target ↔ HasNoPath g target
      none target = (λ k ps a v. k ps a ((valid target ps a).1 v), λ k ps a v. k ps a ((valid target ps a).0 v))

      pub adequate : (target : ℕ) (answer : Answer) → IsAdequate h target answer ↔ IsAdequate g target answer
      adequate target answer = let s = agreed_adequate g h agree usable target answer in (s.1, s.0)

      pub true_answer : (target : ℕ) (answer : Answer) → IsTrueAnswer h target answer ↔ IsTrueAnswer g target answer
      true_answer target answer = let s = agreed_true g h agree usable target answer in (s.1, s.0)

      pub adequate_inventory : (inventory : Inventory) → IsAdequateInventory h inventory ↔ IsAdequateInventory g inventory
      adequate_inventory inventory = let s = agreed_inventory g h agree usable inventory in (s.1, s.0)

      true_verdict : (target : ℕ) (verdict : Verdict) → IsTrueVerdict h target verdict ↔ IsTrueVerdict g target verdict
      true_verdict target (FirstPath ps a) = first target ps.items a
      true_verdict target Pathless = (λ k. (k.0, (none target).0 k.1), λ k. (k.0, (none target).1 k.1))
      true_verdict target NoCertificate = (λ k. k, λ k. k)

      pub true_inventory : (inventory : Inventory) → IsTrueInventory h inventory ↔ IsTrueInventory g inventory
      true_inventory inventory = (
        λ k. record { count = k.count; each = λ target within d. (true_verdict target (get_or inventory.verdicts.items target d)).0 (k.each target within d) },
        λ k. record { count = k.count; each = λ target within d. (true_verdict target (get_or inventory.verdicts.items target d)).1 (k.each target within d) },
      )

-- ---- two items

abbrev rules : JudgingContext
rules = rules_at in_june false first_two

pub length_zero : HasPathLenAt rules two_items 1 (Some 0)
length_zero = (lit< tt, λ d. (authority_b, refl, (authority_is_fit, length_is_zero)))

not_under : (c : Certificate) (n : Option ℕ) → c ≡ issued_by_b → SomeUnder basic_constraints (HasPathLen n) c.extensions → ⊥
unfolding SomeUnder
not_under c n is s =
    let lt : s.1.0 < 0 = subst (λ (z : Certificate). s.1.0 < length z.extensions) is s.1.1 in
    omega (arith, lt)

pub hand_limits : AreLimits rules two_items by_hand
hand_limits zero n h =
    let f = h.1 ((element two_items 0 h.0).0) in
    absurd (not_under f.0 n (one_certificate (certificate issued_by_b) f.0 issued_by_b f.1 refl) f.2.1)
hand_limits (suc zero) n h = own_limit rules two_items 1 n h
hand_limits (suc (suc v)) n h = let lt = h.0 in absurd (omega (arith, lt))

pub hand_path : IsValidPath (with_limits by_hand (graph_of_items rules two_items under_c)) 0 (0 ∷ 1 ∷ []) 0
hand_path = (valid rules two_items under_c by_hand hand_limits 0 (0 ∷ 1 ∷ []) 0).1 path_by_both

pub not_unlimited : AreLimits rules two_items (λ v. Any) → ⊥
not_unlimited k = let e : Any ≡ UpTo 0 = k 1 (Some 0) length_zero in cc
