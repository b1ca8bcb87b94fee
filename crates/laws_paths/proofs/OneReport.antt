-- Two reports of what prevents a path are equal for equal inputs, and so are their outcomes.
use Rattle.std.proofs.Common.{◌≡◌, ◌∙◌, refl, ap, sym, subst, zero, suc, ℕ, ◌+◌, ◌-◌, Bool, List, [], ◌∷◌, ◌++◌, codes, true, Option, Some, None, slice_get}
use Rattle.std.specs.Fmt.{decimal}
use Rattle.cert_framing.specs.Held.{Framed}
use Rattle.cert_graph.specs.LawsOfNodes.{SayTheSame}
use Rattle.cert_graph.specs.declared.answer.Answer.{Answer}
use Rattle.cert_graph.specs.declared.answer.Answer.TheVariants.{Path, NoPath, NoTarget}
use Rattle.cert_judge.specs.Classed.{AreClassed}
use Rattle.cert_judge.specs.ItemGraph.{graph_of_items}
use Rattle.cert_judge.specs.Items.{rules_by}
use Rattle.cert_judge.specs.Revoking.{Item, JudgingContext}
use Rattle.cert_judge.specs.Vouching.{Vouching}
use Rattle.cert_judge.proofs.Carrying.{one_answer}
use Rattle.cert_model.specs.Class.{Class, IsClassOf}
use Rattle.cert_model.specs.Class as classes
use Rattle.cert_serving.specs.declared.permits.Permits.{Permits}
use Rattle.cert_vouchers.specs.declared.vouchers.Vouchers.{Vouchers}
use Rattle.certpath_run.specs.Answered.{IsFound}
use Rattle.certpath_run.proofs.Searched.{one_classing}
use Rattle.certpath_inputs.specs.Check.{check_line}
use Rattle.certpath_inputs.specs.Demands.{ArePermitsOf, VouchesWhere, demand_lines, demanded, of_purpose, target_octets}
use Rattle.certpath_inputs.specs.Inputs.{VouchesBy}
use Rattle.certpath_inputs.specs.declared.demand.Demand.{Demand}
use Rattle.certpath_why.specs.Bounds.{reach_by}
use Rattle.certpath_why.specs.Why.{IsWhyFor, octets_at}
use Rattle.certpath_run.specs.Report.{position_words, answer_line}
use Rattle.certpath_run.specs.Runs.{IsWhyReportFor, IsWhyReportWith, VouchesAnyWhere, kind_of}
use Rattle.certpath_run.specs.declared.settings.Outcome.{Outcome}
use Rattle.certpath_run.specs.declared.settings.Settings.{Settings}
use Rattle.fault_texts.specs.FaultLines.{AreAnchorLines, AreFaultLines, IsFaultLine, IsTargetLine, OtherOr, fault_line, more_line, most_lines, of_none, of_other, others_among}
use Rattle.fault_texts.specs.declared.lines.Whose.{Whose}
use Rattle.fault_texts.specs.declared.lines.Whose.TheVariants.{Items, Anchors}
use Rattle.jiff_core.specs.declared.civil.datetime.DateTime.{DateTime}
use Rattle.laws_items.proofs.OneFault.{one_fault}
use Rattle.laws_paths.proofs.OneDemand.{of_both, one_text_of_demand, same_anywhere, same_where}
use Rattle.laws_paths.proofs.OneWhy.{OneUnmet, one_why, same_reaches}
use Rattle.laws_paths.proofs.Sizes.{short_extensions}

-- ---- the answer

abbrev path_line : List ℕ → ℕ → List ℕ
path_line positions anchor = codes "path" ++ (position_words positions ++ (codes " anchor " ++ (decimal anchor ++ 10 ∷ [])))

same_answer : (answer other : Answer) → SayTheSame answer other → (answer_line answer ≡ answer_line other) × (kind_of answer ≡ kind_of other)
same_answer (Path ps a table) (Path qs b second) s = (λ i. path_line (s.0 i) (s.1 i), refl)
same_answer (Path ps a table) (NoPath second) s = absurd s
same_answer (Path ps a table) NoTarget s = absurd s
same_answer (NoPath table) (Path qs b second) s = absurd s
same_answer (NoPath table) (NoPath second) s = (refl, refl)
same_answer (NoPath table) NoTarget s = absurd s
same_answer NoTarget (Path qs b second) s = absurd s
same_answer NoTarget (NoPath second) s = absurd s
same_answer NoTarget NoTarget s = (refl, refl)

-- ---- faults

-- what follows of two that hold of an item that is other, and of one that isn't
of_either : {P Q P' Q' Z : Type 0} (k : Class) → OtherOr k P Q → OtherOr k P' Q' → (P → P' → Z) → (Q → Q' → Z) → Z
of_either (classes.certificate c) h g a b = b h g
of_either (classes.list l) h g a b = b h g
of_either classes.other h g a b = a h g

one_fault_line : (whose : Whose) (k : ℕ) (s line other : List ℕ) → IsFaultLine whose k s line → IsFaultLine whose k s other → line ≡ other
one_fault_line whose k s line other (of_other f is first at) (of_other g also second there) = at ∙ ap (fault_line whose k) (one_fault s f g first second) ∙ sym there
one_fault_line whose k s line other (of_other f is first at) (of_none none there) = absurd (none is)
one_fault_line whose k s line other (of_none none at) (of_other g is second there) = absurd (none is)
one_fault_line whose k s line other (of_none none at) (of_none also there) = at ∙ sym there

one_target_line : (found : Option Item) (target : ℕ) (line other : List ℕ) → IsTargetLine found target line → IsTargetLine found target other → line ≡ other
one_target_line None target line other h g = h ∙ sym g
one_target_line (Some x) target line other h g = of_either x.class h g (one_fault_line Items target x.octets line other) (λ a b. a ∙ sym b)

one_text_of_anchors : (k left : ℕ) (xs : List Item) (text other : List ℕ) → AreAnchorLines k left xs text → AreAnchorLines k left xs other → text ≡ other
one_text_of_anchors k left [] text other h g = h ∙ sym g
one_text_of_anchors k zero (x ∷ xs) text other h g = h ∙ sym g
one_text_of_anchors k (suc left) (x ∷ xs) text other h g =
    of_either x.class h g
    (λ a b.
    let line : a.0 ≡ b.0 = one_fault_line Anchors k x.octets a.0 b.0 a.2 b.2 in
    let rest : a.1 ≡ b.1 = one_text_of_anchors (k + 1) left xs a.1 b.1 a.3 b.3 in
    let both : a.0 ++ a.1 ≡ b.0 ++ b.1 = λ i. line i ++ rest i in
    a.4 ∙ both ∙ sym b.4)
    (one_text_of_anchors (k + 1) (suc left) xs text other)

one_text_of_faults : (items : List Item) (target : ℕ) (anchors : List Item) (text other : List ℕ) → AreFaultLines items target anchors text → AreFaultLines items target anchors other → text ≡ other
one_text_of_faults items target anchors text other h g =
    let own : h.own ≡ g.own = one_target_line (slice_get items target) target h.own g.own h.own_is g.own_is in
    let lines : h.lines ≡ g.lines = one_text_of_anchors 0 most_lines anchors h.lines g.lines h.lines_are g.lines_are in
    let more = more_line (others_among anchors - most_lines) in
    let both : h.own ++ (h.lines ++ more) ≡ g.own ++ (g.lines ++ more) = λ i. own i ++ (lines i ++ more) in
    h.text_is ∙ both ∙ sym g.text_is

-- ---- the whole

-- of items with their classes
unmet_of : (demand : Demand) (octets : List (List ℕ)) (items : List Item) (target : ℕ) → AreClassed octets items → OneUnmet demand items target
unmet_of demand octets items target classed v x c at is =
    let there : IsClassOf x.octets x.class = subst (λ (y : Item). IsClassOf y.octets y.class) at.2 (classed.classes at.0 x at.1) in
    one_text_of_demand demand (octets_at items target) v x c (short_extensions x.octets c (subst (IsClassOf x.octets) is there))

pub one_report : (demand : Demand) (r search : JudgingContext) (items anchors : Framed) (target : ℕ) (text another : List ℕ) (outcome other : Outcome)
    → IsWhyReportWith demand r search items anchors target text outcome → IsWhyReportWith demand r search items anchors target another other → (text ≡ another) × (outcome ≡ other)
one_report demand r search items anchors target text another outcome other h k =
    let xs = k.classed in
    let ys = k.classed_anchors in
    let a : h.classed ≡ xs = one_classing items.items h.classed xs h.are_classed k.are_classed in
    let b : h.classed_anchors ≡ ys = one_classing anchors.items h.classed_anchors ys h.anchors_are_classed k.anchors_are_classed in
    let found : IsFound (graph_of_items search xs ys) target h.answer =
    subst (λ (l : List Item). IsFound (graph_of_items search l ys) target h.answer) a (subst (λ (l : List Item). IsFound (graph_of_items search h.classed l) target h.answer) b h.found) in
    let faults_are : AreFaultLines xs target ys h.faults = subst (λ (l : List Item). AreFaultLines l target ys h.faults) a (subst (λ (l : List Item). AreFaultLines h.classed target l h.faults) b h.faults_are) in
    let is_why : IsWhyFor demand r search xs ys target h.answer h.why =
    subst (λ (l : List Item). IsWhyFor demand r search l ys target h.answer h.why) a (subst (λ (l : List Item). IsWhyFor demand r search h.classed l target h.answer h.why) b h.is_why) in
    let say : SayTheSame h.answer k.answer = one_answer search xs ys target h.answer k.answer found.holds k.found.holds in
    let same = same_answer h.answer k.answer say in
    let reaches : reach_by h.answer ≡ reach_by k.answer = λ i v. same_reaches (graph_of_items search xs ys) target h.answer k.answer found k.found say v i in
    let faults : h.faults ≡ k.faults = one_text_of_faults xs target ys h.faults k.faults faults_are k.faults_are in
    let why : h.why ≡ k.why = one_why demand r search xs ys target (unmet_of demand items.items xs target k.are_classed) h.answer k.answer h.why k.why reaches is_why k.is_why in
    let front = demand_lines demand in
    let whole : front ++ (answer_line h.answer ++ (check_line true ++ (h.faults ++ h.why))) ≡ front ++ (answer_line k.answer ++ (check_line true ++ (k.faults ++ k.why)))
    = λ i. front ++ (same.0 i ++ (check_line true ++ (faults i ++ why i))) in
    (h.text_is ∙ whole ∙ sym k.text_is, h.outcome_is ∙ same.1 ∙ sym k.outcome_is)

-- two reports by permits of one demand
abbrev ByPermits : DateTime → Bool → Demand → Framed → Framed → Vouchers → ℕ → List ℕ → Outcome → Type 0
ByPermits moment lists demand items anchors pairs target text outcome =
    (permits : Permits) × ArePermitsOf (demanded demand (target_octets items.items target)) items.items permits
    × IsWhyReportWith demand (rules_by moment lists (VouchesAnyWhere permits pairs)) (rules_by moment lists (VouchesWhere permits pairs)) items anchors target text outcome

one_by_permits : (moment : DateTime) (lists : Bool) (demand : Demand) (items anchors : Framed) (pairs : Vouchers) (target : ℕ) (text another : List ℕ) (outcome other : Outcome)
    → ByPermits moment lists demand items anchors pairs target text outcome → ByPermits moment lists demand items anchors pairs target another other → (text ≡ another) × (outcome ≡ other)
one_by_permits moment lists demand items anchors pairs target text another outcome other h k =
    let d = demanded demand (target_octets items.items target) in
    let anywhere = same_anywhere d items.items h.0 k.0 h.1 k.1 pairs in
    let there = same_where d items.items h.0 k.0 h.1 k.1 pairs in
    let moved : IsWhyReportWith demand (rules_by moment lists (VouchesAnyWhere k.0 pairs)) (rules_by moment lists (VouchesWhere k.0 pairs)) items anchors target text outcome =
    subst (λ (v : Vouching). IsWhyReportWith demand (rules_by moment lists v) (rules_by moment lists (VouchesWhere k.0 pairs)) items anchors target text outcome) anywhere
    (subst (λ (v : Vouching). IsWhyReportWith demand (rules_by moment lists (VouchesAnyWhere h.0 pairs)) (rules_by moment lists v) items anchors target text outcome) there h.2) in
    one_report demand (rules_by moment lists (VouchesAnyWhere k.0 pairs)) (rules_by moment lists (VouchesWhere k.0 pairs)) items anchors target text another outcome other moved k.2

pub one_report_for : (settings : Settings) (demand : Demand) (items anchors : Framed) (pairs : Vouchers) (text another : List ℕ) (outcome other : Outcome)
    → IsWhyReportFor settings demand outcome items anchors pairs text → IsWhyReportFor settings demand other items anchors pairs another → (text ≡ another) × (outcome ≡ other)
one_report_for settings demand items anchors pairs text another outcome other h k =
    let r = rules_by settings.policy.moment settings.policy.demand_lists (VouchesBy pairs) in
    of_both demand.purpose demand.host h k (one_report (of_purpose None) r r items anchors settings.target text another outcome other)
    (one_by_permits settings.policy.moment settings.policy.demand_lists demand items anchors pairs settings.target text another outcome other)
