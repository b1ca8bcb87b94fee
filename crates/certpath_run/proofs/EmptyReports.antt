-- Reports on no items are right.
use Rattle.std.proofs.Common.{◌≡◌, refl, ℕ, true, List, [], arith, inl, inr, lit<, le_refl, Some, None}
use Rattle.std.specs.Fmt.{digits}
use Rattle.std.specs.Global.{Global, Vec}
use denote.RawPtr.{null_ptr}
use Rattle.cert_framing.specs.declared.ending.End.TheVariants.{Clean}
use Rattle.cert_graph.specs.declared.answer.Answer.TheVariants.{NoTarget}
use Rattle.cert_graph.specs.declared.inventory.Inventory.{Inventory}
use Rattle.cert_graph.specs.Inventory.{IsAdequateInventory, IsTrueInventory}
use Rattle.cert_judge.specs.Classed.{AreClassed}
use Rattle.cert_judge.specs.ItemGraph.{graph_of_items}
use Rattle.cert_judge.specs.Revoking.{JudgingContext}
use Rattle.certpath_inputs.specs.cert_serving.specs.declared.permits.Permits.{Permits}
use Rattle.certpath_inputs.specs.cert_serving.specs.Refusing.{IsIn}
use Rattle.certpath_inputs.specs.Demands.{ArePermitsOf, demanded, of_purpose, target_octets}
use Rattle.certpath_inputs.specs.declared.demand.AskedPurpose.{AskedPurpose}
use Rattle.certpath_run.specs.AllReport.{all_report_with, IsAllReportWith}
use Rattle.certpath_run.specs.EmptyReports.{no_items, empty_report, empty_report_on_all}
use Rattle.certpath_run.specs.Report.{report_with}
use Rattle.certpath_run.specs.Runs.{IsReportWith}
use Rattle.certpath_run.specs.declared.settings.AllOutcome.TheVariants as all
use Rattle.certpath_run.specs.declared.settings.Outcome.TheVariants as outcomes

none_classed : AreClassed [] []
none_classed = record { octets_are = refl; classes = λ k d lt. absurd (omega (arith, lt)) }

none_certificate : (r : JudgingContext) (target : ℕ) → (graph_of_items r [] []).IsCertificate target → ⊥
none_certificate r target h = let lt = h.0 in omega (arith, lt)

report_reads : (lines : List ℕ) → empty_report lines ≡ report_with lines [] Clean [] Clean NoTarget true
unfolding digits
report_reads lines = refl

pub report_is_right : (lines : List ℕ) (r : JudgingContext) (target : ℕ) → IsReportWith lines r no_items no_items target (empty_report lines) outcomes.NoTarget
report_is_right lines r target = record {
  classed = [];
  classed_anchors = [];
  answer = NoTarget;
  are_classed = none_classed;
  anchors_are_classed = none_classed;
  holds = none_certificate r target;
  text_is = report_reads lines;
  outcome_is = refl;
}

empty_vec : Global → {X : Type 0} → Vec X
empty_vec alloc = record { ptr = null_ptr; len = 0; cap = 0; alloc = alloc; items = []; ok = (refl, le_refl 0); small = lit< tt }

abbrev empty_inventory : Global → Inventory
empty_inventory alloc = record { steps = empty_vec alloc; verdicts = empty_vec alloc }

empty_is_adequate : (r : JudgingContext) (alloc : Global) → IsAdequateInventory (graph_of_items r [] []) (empty_inventory alloc)
unfolding empty_vec
empty_is_adequate r alloc = record {
  table = record { whole = λ k d lt. absurd (omega (arith, lt)); anchored = λ k d lt. absurd (omega (arith, lt)); successors = λ k lt. absurd (omega (arith, lt)) };
  stands = λ k last. absurd (omega (arith, last));
  count = refl;
  each = λ target lt. absurd (omega (arith, lt));
}

empty_is_true : (r : JudgingContext) (alloc : Global) → IsTrueInventory (graph_of_items r [] []) (empty_inventory alloc)
unfolding empty_vec
empty_is_true r alloc = record { count = refl; each = λ target lt. absurd (omega (arith, lt)) }

all_report_reads : (lines : List ℕ) → empty_report_on_all lines ≡ all_report_with lines [] Clean [] Clean [] true
unfolding digits
all_report_reads lines = refl

pub all_report_is_right : (lines : List ℕ) (r : JudgingContext) (alloc : Global) → IsAllReportWith lines r no_items no_items (empty_report_on_all lines) all.Each
unfolding empty_vec
all_report_is_right lines r alloc = record {
  classed = [];
  classed_anchors = [];
  inventory = empty_inventory alloc;
  are_classed = none_classed;
  anchors_are_classed = none_classed;
  adequate = empty_is_adequate r alloc;
  holds = empty_is_true r alloc;
  text_is = all_report_reads lines;
  outcome_is = refl;
}

-- nothing is refused, and a purpose is processed
abbrev pub none_refused : Permits
none_refused = record { refused = record { keys = [] }; has_purpose = true; host_target = None }

refuses_none : (octets : List ℕ) → IsIn none_refused.refused octets → ⊥
refuses_none octets h = cc

pub none_to_permit : (purpose : AskedPurpose) (target : ℕ) → ArePermitsOf (demanded (of_purpose (Some purpose)) (target_octets [] target)) [] none_refused
none_to_permit purpose target = (
  λ octets. (λ p at. let lt = at.1 in absurd (omega (arith, lt)), λ p. refuses_none octets),
  λ octets identifier. (
    λ p. elim p [ inl h ↦ inl (refl, h.1) | inr h ↦ absurd h.0 ],
    λ p. elim p [ inl h ↦ inl (refl, h.1) | inr h ↦ let none = h.0 in cc ],
  ),
)
