-- Two reports that are right for equal inputs are equal, and so are their outcomes.
use Rattle.std.proofs.Common.{◌≡◌, ◌∙◌, refl, sym, ap, subst, ℕ, suc, ◌+◌, ◌<◌, ◌||◌, Bool, true, if◌then◌else◌, List, [], ◌∷◌, ◌++◌, length, get_or, codes, arith, Option, Some, None, inl, inr}
use Rattle.std.specs.Fmt.{decimal}
use Rattle.cert_framing.specs.Held.{Framed}
use Rattle.cert_graph.specs.declared.answer.Answer.{Answer}
use Rattle.cert_graph.specs.declared.answer.Answer.TheVariants.{Path, NoPath, NoTarget}
use Rattle.cert_graph.specs.declared.inventory.Verdict.{Verdict}
use Rattle.cert_graph.specs.declared.inventory.Verdict.TheVariants.{FirstPath, Pathless, NoCertificate}
use Rattle.cert_graph.specs.Adequate.{IsTrueAnswer}
use Rattle.cert_graph.specs.Inventory.{IsTrueInventory}
use Rattle.cert_graph.specs.LawsOfInventories.{AreOneVerdict}
use Rattle.cert_graph.specs.LawsOfNodes.{SayTheSame}
use Rattle.cert_graph.proofs.AgreeingInventories.{agreed_inventory}
use Rattle.cert_graph.proofs.Sharing.{inventory_true}
use Rattle.cert_judge.specs.ItemGraph.{graph_of_items}
use Rattle.cert_judge.specs.Items.{rules_at}
use Rattle.cert_judge.specs.Revoking.{Item, JudgingContext}
use Rattle.cert_judge.proofs.Carrying.{one_answer, one_inventory_of}
use Rattle.cert_judge.proofs.Linking.{fit_is_usable}
use Rattle.cert_model.specs.Class.{Class}
use Rattle.cert_model.specs.Fields.{CivilTime}
use Rattle.cert_model.specs.View.{time_view}
use Rattle.cert_purpose.specs.Restricting.{VouchAlike}
use Rattle.cert_purpose.proofs.Alike.{alike_agrees, alike_answers}
use Rattle.certpath_inputs.specs.cert_serving.specs.Demanding.{Demanded}
use Rattle.certpath_inputs.specs.cert_serving.specs.declared.permits.Permits.{Permits}
use Rattle.cert_vouchers.specs.declared.vouchers.Vouchers.{Vouchers}
use Rattle.certpath_find.proofs.Answering.{one_classing}
use Rattle.certpath_inputs.specs.Check.{check_line}
use Rattle.certpath_inputs.specs.Demands.{ArePermitsOf, IfNeither, VouchesWhere, demand_lines, demanded, target_octets}
use Rattle.certpath_inputs.specs.Inputs.{VouchesBy}
use Rattle.certpath_inputs.specs.declared.demand.Demand.{Demand}
use Rattle.certpath_inputs.specs.declared.settings.AllSettings.{AllSettings}
use Rattle.certpath_run.specs.AllReport.{verdict_end, verdict_lines, all_report_with, is_pathless, has_pathless, IsAllReportWith, IsAllReportFor}
use Rattle.certpath_run.specs.Report.{item_lines, end_line, anchors_line, position_words, answer_line, report_with}
use Rattle.certpath_run.specs.Runs.{kind_of, IsReportWith, IsReportFor}
use Rattle.certpath_run.specs.declared.settings.AllOutcome.{AllOutcome}
use Rattle.certpath_run.specs.declared.settings.AllOutcome.TheVariants.{Each, NotEach}
use Rattle.certpath_run.specs.declared.settings.Outcome.{Outcome}
use Rattle.certpath_run.specs.declared.settings.Settings.{Settings}

abbrev path_line : List ℕ → ℕ → List ℕ
path_line positions anchor = codes "path" ++ (position_words positions ++ (codes " anchor " ++ (decimal anchor ++ 10 ∷ [])))

same_path : (ps qs : List ℕ) (a b : ℕ) → ps ≡ qs → a ≡ b → path_line ps a ≡ path_line qs b
same_path ps qs a b p q = ap (λ (l : List ℕ). path_line l a) p ∙ ap (λ (n : ℕ). path_line qs n) q

-- answers that agree have one line and one kind
same_answer : (answer other : Answer) → SayTheSame answer other → (answer_line answer ≡ answer_line other) × (kind_of answer ≡ kind_of other)
same_answer (Path ps a table) (Path qs b second) s = (same_path ps.items qs.items a b s.0 s.1, refl)
same_answer (Path ps a table) (NoPath second) s = absurd s
same_answer (Path ps a table) NoTarget s = absurd s
same_answer (NoPath table) (Path qs b second) s = absurd s
same_answer (NoPath table) (NoPath second) s = (refl, refl)
same_answer (NoPath table) NoTarget s = absurd s
same_answer NoTarget (Path qs b second) s = absurd s
same_answer NoTarget (NoPath second) s = absurd s
same_answer NoTarget NoTarget s = (refl, refl)

pub one_text : (lines : List ℕ) (r : JudgingContext) (items anchors : Framed) (target : ℕ) (text another : List ℕ) (outcome other : Outcome)
    → IsReportWith lines r items anchors target text outcome → IsReportWith lines r items anchors target another other → (text ≡ another) × (outcome ≡ other)
one_text lines r items anchors target text another outcome other h k =
    let a : h.classed ≡ k.classed = one_classing items.items h.classed k.classed h.are_classed k.are_classed in
    let b : h.classed_anchors ≡ k.classed_anchors = one_classing anchors.items h.classed_anchors k.classed_anchors h.anchors_are_classed k.anchors_are_classed in
    let there : IsTrueAnswer (graph_of_items r k.classed k.classed_anchors) target h.answer =
    subst (λ (l : List Item). IsTrueAnswer (graph_of_items r l k.classed_anchors) target h.answer) a (subst (λ (l : List Item). IsTrueAnswer (graph_of_items r h.classed l) target h.answer) b h.holds) in
    let same = same_answer h.answer k.answer (one_answer r k.classed k.classed_anchors target h.answer k.answer there k.holds) in (
      h.text_is ∙ ap (λ (l : List Item). report_with lines l items.end h.classed_anchors anchors.end h.answer true) a
          ∙ ap (λ (l : List Item). report_with lines k.classed items.end l anchors.end h.answer true) b
          ∙ ap (λ (l : List ℕ). item_lines 0 k.classed ++ (end_line items.end ++ (anchors_line k.classed_anchors anchors.end ++ (lines ++ (l ++ check_line true))))) same.0
          ∙ sym k.text_is,
      h.outcome_is ∙ same.1 ∙ sym k.outcome_is,
    )

-- verdicts that agree have one line, and lack a path both or neither
same_end : (class : Class) (verdict other : Verdict) → AreOneVerdict verdict other → verdict_end class verdict ≡ verdict_end class other
same_end class (FirstPath ps a) (FirstPath qs b) s = same_path ps.items qs.items a b s.0 s.1
same_end class (FirstPath ps a) Pathless s = absurd s
same_end class (FirstPath ps a) NoCertificate s = absurd s
same_end class Pathless (FirstPath qs b) s = absurd s
same_end class Pathless Pathless s = refl
same_end class Pathless NoCertificate s = absurd s
same_end class NoCertificate (FirstPath qs b) s = absurd s
same_end class NoCertificate Pathless s = absurd s
same_end class NoCertificate NoCertificate s = refl

same_lack : (verdict other : Verdict) → AreOneVerdict verdict other → is_pathless verdict ≡ is_pathless other
same_lack (FirstPath ps a) (FirstPath qs b) s = refl
same_lack (FirstPath ps a) Pathless s = absurd s
same_lack (FirstPath ps a) NoCertificate s = refl
same_lack Pathless (FirstPath qs b) s = absurd s
same_lack Pathless Pathless s = refl
same_lack Pathless NoCertificate s = absurd s
same_lack NoCertificate (FirstPath qs b) s = refl
same_lack NoCertificate Pathless s = absurd s
same_lack NoCertificate NoCertificate s = refl

-- lists of verdicts that agree at each position
abbrev AgreeAtEach : List Verdict → List Verdict → Type 0
AgreeAtEach vs ws = (target : ℕ) → target < length vs → (d e : Verdict) → AreOneVerdict (get_or vs target d) (get_or ws target e)

first_agrees : (v w : Verdict) (vs ws : List Verdict) → AgreeAtEach (v ∷ vs) (w ∷ ws) → AreOneVerdict v w
first_agrees v w vs ws f = f 0 (omega arith) v w

others_agree : (v w : Verdict) (vs ws : List Verdict) → AgreeAtEach (v ∷ vs) (w ∷ ws) → AgreeAtEach vs ws
others_agree v w vs ws f = λ target lt d e. f (suc target) (omega (arith, lt)) d e

same_lines : (k : ℕ) (items : List Item) (vs ws : List Verdict) → length vs ≡ length ws → AgreeAtEach vs ws → verdict_lines k items vs ≡ verdict_lines k items ws
same_lines k [] vs ws n f = refl
same_lines k (x ∷ items) [] [] n f = refl
same_lines k (x ∷ items) [] (w ∷ ws) n f = absurd (omega (arith, n))
same_lines k (x ∷ items) (v ∷ vs) [] n f = absurd (omega (arith, n))
same_lines k (x ∷ items) (v ∷ vs) (w ∷ ws) n f =
    let fewer : length vs ≡ length ws = omega (arith, n) in
    ap (λ (l : List ℕ). (decimal k ++ (32 ∷ l)) ++ verdict_lines (k + 1) items vs) (same_end x.class v w (first_agrees v w vs ws f))
    ∙ ap (λ (l : List ℕ). (decimal k ++ (32 ∷ verdict_end x.class w)) ++ l) (same_lines (k + 1) items vs ws fewer (others_agree v w vs ws f))

same_lacks : (vs ws : List Verdict) → length vs ≡ length ws → AgreeAtEach vs ws → has_pathless vs ≡ has_pathless ws
same_lacks [] [] n f = refl
same_lacks [] (w ∷ ws) n f = absurd (omega (arith, n))
same_lacks (v ∷ vs) [] n f = absurd (omega (arith, n))
same_lacks (v ∷ vs) (w ∷ ws) n f =
    let fewer : length vs ≡ length ws = omega (arith, n) in
    ap (λ (b : Bool). b || has_pathless vs) (same_lack v w (first_agrees v w vs ws f)) ∙ ap (λ (b : Bool). is_pathless w || b) (same_lacks vs ws fewer (others_agree v w vs ws f))

pub one_text_of_all : (lines : List ℕ) (r : JudgingContext) (items anchors : Framed) (text another : List ℕ) (outcome other : AllOutcome)
    → IsAllReportWith lines r items anchors text outcome → IsAllReportWith lines r items anchors another other → (text ≡ another) × (outcome ≡ other)
one_text_of_all lines r items anchors text another outcome other h k =
    let a : h.classed ≡ k.classed = one_classing items.items h.classed k.classed h.are_classed k.are_classed in
    let b : h.classed_anchors ≡ k.classed_anchors = one_classing anchors.items h.classed_anchors k.classed_anchors h.anchors_are_classed k.anchors_are_classed in
    let there : IsTrueInventory (graph_of_items r k.classed k.classed_anchors) h.inventory =
    subst (λ (l : List Item). IsTrueInventory (graph_of_items r l k.classed_anchors) h.inventory) a (subst (λ (l : List Item). IsTrueInventory (graph_of_items r h.classed l) h.inventory) b h.holds) in
    let same = one_inventory_of r k.classed k.classed_anchors h.inventory k.inventory there k.holds in
    let vs = h.inventory.verdicts.items in
    let ws = k.inventory.verdicts.items in (
      h.text_is ∙ ap (λ (l : List Item). all_report_with lines l items.end h.classed_anchors anchors.end vs true) a
          ∙ ap (λ (l : List Item). all_report_with lines k.classed items.end l anchors.end vs true) b
          ∙ ap (λ (l : List ℕ). l ++ (end_line items.end ++ (anchors_line k.classed_anchors anchors.end ++ (lines ++ check_line true)))) (same_lines 0 k.classed vs ws same.count same.each)
          ∙ sym k.text_is,
      h.outcome_is ∙ ap (λ (lacks : Bool). if lacks then NotEach else Each) (same_lacks vs ws same.count same.each) ∙ sym k.outcome_is,
    )

-- a report by rules is one by rules that vouch alike

report_alike : (lines : List ℕ) (r s : JudgingContext) (items anchors : Framed) (target : ℕ) (text : List ℕ) (outcome : Outcome) → ((classed : List Item) → VouchAlike r s classed)
    → IsReportWith lines r items anchors target text outcome → IsReportWith lines s items anchors target text outcome
report_alike lines r s items anchors target text outcome alike h = record {
  classed = h.classed;
  classed_anchors = h.classed_anchors;
  answer = h.answer;
  are_classed = h.are_classed;
  anchors_are_classed = h.anchors_are_classed;
  holds = (alike_answers r s h.classed (alike h.classed) h.classed_anchors target h.answer).0 h.holds;
  text_is = h.text_is;
  outcome_is = h.outcome_is;
}

all_report_alike : (lines : List ℕ) (r s : JudgingContext) (items anchors : Framed) (text : List ℕ) (outcome : AllOutcome) → ((classed : List Item) → VouchAlike r s classed)
    → IsAllReportWith lines r items anchors text outcome → IsAllReportWith lines s items anchors text outcome
all_report_alike lines r s items anchors text outcome alike h =
    let g = graph_of_items r h.classed h.classed_anchors in
    let g' = graph_of_items s h.classed h.classed_anchors in
    let adequate = (agreed_inventory g g' (alike_agrees r s h.classed h.classed_anchors (alike h.classed)) (fit_is_usable r h.classed h.classed_anchors) h.inventory).0 h.adequate in record {
      classed = h.classed;
      classed_anchors = h.classed_anchors;
      inventory = h.inventory;
      are_classed = h.are_classed;
      anchors_are_classed = h.anchors_are_classed;
      adequate = adequate;
      holds = inventory_true g' h.inventory adequate;
      text_is = h.text_is;
      outcome_is = h.outcome_is;
    }

-- permits of one demand vouch alike
permits_alike : (moment : CivilTime) (lists : Bool) (d : Demanded) (octets : List (List ℕ)) (p q : Permits) (pairs : Vouchers) → ArePermitsOf d octets p → ArePermitsOf d octets q
    → (classed : List Item) → VouchAlike (rules_at moment lists (VouchesWhere p pairs)) (rules_at moment lists (VouchesWhere q pairs)) classed
permits_alike moment lists d octets p q pairs a b classed = record {
  moment = refl;
  demand = refl;
  certificates = λ x c key at is. (λ h. (h.0, (b.0 x.octets).1 ((a.0 x.octets).0 h.1)), λ h. (h.0, (a.0 x.octets).1 ((b.0 x.octets).0 h.1)));
  lists = λ x l key at is. (λ h. (h.0, (b.0 x.octets).1 ((a.0 x.octets).0 h.1)), λ h. (h.0, (a.0 x.octets).1 ((b.0 x.octets).0 h.1)));
  processed = λ x c id at is. (
    λ h. elim h [ inl none ↦ inl none | inr by ↦ inr ((b.1 x.octets id).1 ((a.1 x.octets id).0 by)) ],
    λ h. elim h [ inl none ↦ inl none | inr by ↦ inr ((a.1 x.octets id).1 ((b.1 x.octets id).0 by)) ],
  );
}

-- what follows of two that hold if nothing is demanded, and if something is
of_both : {A B : Type 0} {P Q P' Q' Z : Type 0} (a : Option A) (b : Option B) → IfNeither a b P Q → IfNeither a b P' Q' → (P → P' → Z) → (Q → Q' → Z) → Z
of_both None None h k f g = f h k
of_both None (Some b) h k f g = g h k
of_both (Some a) b h k f g = g h k

-- two reports by permits of one demand
one_text_by_permits : (lines : List ℕ) (moment : CivilTime) (lists : Bool) (d : Demanded) (items anchors : Framed) (pairs : Vouchers) (target : ℕ) (text another : List ℕ) (outcome other : Outcome)
    → ((permits : Permits) × ArePermitsOf d items.items permits × IsReportWith lines (rules_at moment lists (VouchesWhere permits pairs)) items anchors target text outcome)
    → ((permits : Permits) × ArePermitsOf d items.items permits × IsReportWith lines (rules_at moment lists (VouchesWhere permits pairs)) items anchors target another other)
    → (text ≡ another) × (outcome ≡ other)
one_text_by_permits lines moment lists d items anchors pairs target text another outcome other h k =
    let r = rules_at moment lists (VouchesWhere h.0 pairs) in
    let s = rules_at moment lists (VouchesWhere k.0 pairs) in
    one_text lines s items anchors target text another outcome other
    (report_alike lines r s items anchors target text outcome (permits_alike moment lists d items.items h.0 k.0 pairs h.1 k.1) h.2) k.2

one_text_of_all_by_permits : (lines : List ℕ) (moment : CivilTime) (lists : Bool) (d : Demanded) (items anchors : Framed) (pairs : Vouchers) (text another : List ℕ) (outcome other : AllOutcome)
    → ((permits : Permits) × ArePermitsOf d items.items permits × IsAllReportWith lines (rules_at moment lists (VouchesWhere permits pairs)) items anchors text outcome)
    → ((permits : Permits) × ArePermitsOf d items.items permits × IsAllReportWith lines (rules_at moment lists (VouchesWhere permits pairs)) items anchors another other)
    → (text ≡ another) × (outcome ≡ other)
one_text_of_all_by_permits lines moment lists d items anchors pairs text another outcome other h k =
    let r = rules_at moment lists (VouchesWhere h.0 pairs) in
    let s = rules_at moment lists (VouchesWhere k.0 pairs) in
    one_text_of_all lines s items anchors text another outcome other
    (all_report_alike lines r s items anchors text outcome (permits_alike moment lists d items.items h.0 k.0 pairs h.1 k.1) h.2) k.2

pub one_text_for : (settings : Settings) (demand : Demand) (items anchors : Framed) (pairs : Vouchers) (text another : List ℕ) (outcome other : Outcome)
    → IsReportFor settings demand outcome items anchors pairs text → IsReportFor settings demand other items anchors pairs another → (text ≡ another) × (outcome ≡ other)
one_text_for settings demand items anchors pairs text another outcome other h k =
    let moment = time_view settings.policy.moment in
    let lists = settings.policy.demand_lists in
    of_both demand.purpose demand.host h k (one_text (demand_lines demand) (rules_at moment lists (VouchesBy pairs)) items anchors settings.target text another outcome other)
    (one_text_by_permits (demand_lines demand) moment lists (demanded demand (target_octets items.items settings.target)) items anchors pairs settings.target text another outcome other)

pub one_text_of_all_for : (settings : AllSettings) (demand : Demand) (items anchors : Framed) (pairs : Vouchers) (text another : List ℕ) (outcome other : AllOutcome)
    → IsAllReportFor settings demand outcome items anchors pairs text → IsAllReportFor settings demand other items anchors pairs another → (text ≡ another) × (outcome ≡ other)
one_text_of_all_for settings demand items anchors pairs text another outcome other h k =
    let moment = time_view settings.policy.moment in
    let lists = settings.policy.demand_lists in
    of_both demand.purpose demand.host h k (one_text_of_all (demand_lines demand) (rules_at moment lists (VouchesBy pairs)) items anchors text another outcome other)
    (one_text_of_all_by_permits (demand_lines demand) moment lists (demanded demand (target_octets items.items (length items.items))) items anchors pairs text another outcome other)
