-- How far an issuer leads, by the row of an answer that there is no path.
use Rattle.std.specs.Prelude.{◌↔◌}
use Rattle.std.proofs.Common.{◌≡◌, ap, subst, sym, refl, ℕ, zero, suc, ◌<◌, ◌≤◌, length, arith, List}
use Rattle.cert_graph.specs.declared.reach.Reach.{Reach}
use Rattle.cert_graph.specs.declared.reach.Reach.TheVariants.{No, UpTo, Any}
use Rattle.cert_graph.specs.declared.answer.Answer.{Answer}
use Rattle.cert_graph.specs.declared.answer.Answer.TheVariants.{NoPath}
use Rattle.cert_graph.specs.declared.answer.Table.{Table}
use Rattle.cert_graph.specs.Adequate.{row_of, rows_of}
use Rattle.cert_graph.specs.Graph.{Graph, IsReached}
use Rattle.cert_graph.specs.Reach.{Takes}
use Rattle.cert_search.specs.Exact.{HoldsAll}
use Rattle.cert_judge.specs.ItemGraph.{graph_of_items}
use Rattle.cert_judge.specs.Revoking.{Item, JudgingContext}
use Rattle.certpath_find.specs.Answered.{IsFound}
use Rattle.certpath_why.specs.Bounds.{reach_by, IsHeldBack}
use Rattle.certpath_run.specs.Reaching.{LeadsNowhere, LeadsWithNoneBelow, IsHeldBackByPaths}

-- the one row of the answer is exact
exact_row : (g : Graph) (target : ℕ) (table : Table) → IsFound g target (NoPath table) → HoldsAll g (row_of (rows_of table) 0)
exact_row g target table found =
    let one = ap length found.adequate.one in
    (found.exact 0 (omega arith)).0

no_iff : (s : Reach) → (s ≡ No) ↔ ((c : ℕ) → Takes s c → ⊥)
no_iff No = (λ e c t. t, λ h. refl)
no_iff (UpTo n) = (λ e c t. absurd (cc), λ h. absurd (h 0 (omega arith)))
no_iff Any = (λ e c t. absurd (cc), λ h. absurd (h 0 tt))

none_iff : (s : Reach) → (s ≡ UpTo 0) ↔ (Takes s 0 × ((c : ℕ) → Takes s (suc c) → ⊥))
none_iff No = (λ e. absurd (cc), λ h. absurd h.0)
none_iff (UpTo zero) = (λ e. (omega arith, λ c t. omega arith), λ h. refl)
none_iff (UpTo (suc n)) = (λ e. absurd (cc), λ h. absurd (h.1 n (omega arith)))
none_iff Any = (λ e. absurd (cc), λ h. absurd (h.1 0 tt))

nowhere_iff : (g : Graph) (target : ℕ) (table : Table) → IsFound g target (NoPath table) → (w : ℕ) → (reach_by (NoPath table) w ≡ No) ↔ LeadsNowhere g w
nowhere_iff g target table found w =
    let exact = exact_row g target table found w in
    let none = no_iff (reach_by (NoPath table) w) in
    (λ e number c h. none.0 e c ((exact c).1 (number, h)), λ h. none.1 (λ c t. let r = (exact c).0 t in h r.0 c r.1))

below_iff : (g : Graph) (target : ℕ) (table : Table) → IsFound g target (NoPath table) → (v : ℕ) → (reach_by (NoPath table) v ≡ UpTo 0) ↔ LeadsWithNoneBelow g v
below_iff g target table found v =
    let exact = exact_row g target table found v in
    let none = none_iff (reach_by (NoPath table) v) in (
      λ e. record { leads = (exact 0).0 (none.0 e).0; no_more = λ number c h. (none.0 e).1 c ((exact (suc c)).1 (number, h)) },
      λ h. none.1 ((exact 0).1 h.leads, λ c t. let r = (exact (suc c)).0 t in h.no_more r.0 c r.1),
    )

pub held_back_iff : (r search : JudgingContext) (items anchors : List Item) (target : ℕ) (table : Table) → IsFound (graph_of_items search items anchors) target (NoPath table)
    → (w v : ℕ) → IsHeldBack r items (reach_by (NoPath table)) w v ↔ IsHeldBackByPaths r search items anchors w v
held_back_iff r search items anchors target table found w v =
    let g = graph_of_items search items anchors in (
      λ h. record { nowhere = (nowhere_iff g target table found w).0 h.leads_nowhere; counts = h.counts; linked = h.linked; none_below = (below_iff g target table found v).0 h.bounded },
      λ h. record { leads_nowhere = (nowhere_iff g target table found w).1 h.nowhere; counts = h.counts; linked = h.linked; bounded = (below_iff g target table found v).1 h.none_below },
    )
