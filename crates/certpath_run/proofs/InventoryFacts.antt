-- The lines of the report on all items, as the loops go over them, and what the check says of what was found.
use Rattle.std.proofs.Common.{◌≡◌, ◌∙◌, sym, ap, refl, subst, ℕ, suc, ◌+◌, ◌<◌, ◌≤◌, ◌||◌, List, [], ◌∷◌, ◌++◌, length, drop, arith, append_assoc, get_or, Bool, true, false, if◌then◌else◌, codes, Option, Result, Ok, Err, IfOk, string_bytes}
use Rattle.std.specs.Prelude.{IsTrue, ◌↔◌}
use Rattle.std.specs.Fmt.{decimal}
use Rattle.std.proofs.lemmas.List.{append-nil, drop_all}
use Rattle.cert_framing.specs.declared.ending.End.{End}
use Rattle.cert_framing.specs.Held.{Framed}
use Rattle.cert_graph.specs.declared.inventory.Inventory.{Inventory}
use Rattle.cert_graph.specs.declared.inventory.Verdict.{Verdict}
use Rattle.cert_graph.specs.declared.inventory.Verdict.TheVariants.{FirstPath, Pathless, NoCertificate}
use Rattle.cert_graph.specs.Inventory.{IsAdequateInventory}
use Rattle.cert_model.specs.Fields.{CivilTime}
use Rattle.cert_judge.specs.Vouching.{Vouching}
use Rattle.cert_judge.specs.Classed.{AreClassed}
use Rattle.cert_judge.specs.ItemGraph.{graph_of_items}
use Rattle.cert_judge.specs.JudgedItems.{AreJudged}
use Rattle.cert_judge.specs.Revoking.{Item, JudgingContext}
use Rattle.cert_judge.specs.declared.judged.JudgedItem.{JudgedItem}
use Rattle.cert_vouchers.specs.declared.vouchers.Vouchers.{Vouchers}
use Rattle.certpath_evidence.specs.Evidence.{evidence, told_by}
use Rattle.certpath_find.proofs.Answering.{one_classing}
use Rattle.certpath_inputs.specs.declared.settings.AllSettings.{AllSettings}
use Rattle.certpath_run.specs.declared.settings.AllOutcome.{AllOutcome}
use Rattle.certpath_run.specs.declared.settings.AllOutcome.TheVariants.{Each, NotEach}
use Rattle.certpath_run.specs.Report.{class_word, end_line, certificates_among}
use Rattle.certpath_inputs.specs.Check.{check_line}
use Rattle.cert_judge.specs.Items.{rules_by}
use Rattle.certpath_inputs.specs.cert_serving.specs.declared.permits.Permits.{Permits}
use Rattle.certpath_inputs.specs.Inputs.{VouchesBy}
use Rattle.certpath_inputs.specs.declared.demand.AskedPurpose.{AskedPurpose}
use Rattle.certpath_inputs.specs.Demands.{ArePermitsOf, VouchesWhere, demand_lines, demanded, purpose_line, target_octets}
use Rattle.certpath_inputs.specs.declared.demand.Demand.{Demand}
use Rattle.certpath_inputs.proofs.DemandFacts.{shown_by}
use Rattle.certpath_run.specs.AllReport.{verdict_end, verdict_lines, all_report_with, is_pathless, has_pathless, outcome_of_all, IsAllReportBy, IsAllReportFor, IsAllReportOf, IsAllReportWith, AreFindingsFor}
use Rattle.certpath_run.specs.declared.reporting_all.ReportedAll.{ReportedAll}
use Rattle.certpath_run.specs.JudgedReport.{judged_word, counts_line, certificates_of, judged_verdict_line, judged_verdict_lines, judged_all_report}
use Rattle.certpath_run.proofs.ReportFacts.{drop_next, judged_first, same_word, same_certificates}

both_next : (items : List JudgedItem) (verdicts : List Verdict) (k : ℕ) (d : JudgedItem) (e : Verdict) → k < length items → k < length verdicts
    → judged_verdict_lines k (drop k items) (drop k verdicts) ≡ judged_verdict_line k (get_or items k d) (get_or verdicts k e) ++ judged_verdict_lines (k + 1) (drop (k + 1) items) (drop (k + 1) verdicts)
both_next items verdicts k d e lt lt' =
    ap (λ l. judged_verdict_lines k l (drop k verdicts)) (drop_next items k d lt) ∙ ap (λ l. judged_verdict_lines k (get_or items k d ∷ drop (k + 1) items) l) (drop_next verdicts k e lt')

-- a number and a space, and then the rest of a line
pub path_line_pushed : (old mid new : List ℕ) (k : ℕ) (rest : List ℕ) → mid ≡ old ++ (decimal k ++ (32 ∷ [])) → new ≡ mid ++ rest → new ≡ old ++ (decimal k ++ (32 ∷ rest))
path_line_pushed old mid new k rest p q = q ∙ ap (λ t. t ++ rest) p ∙ append_assoc old (decimal k ++ (32 ∷ [])) rest ∙ ap (λ t. old ++ t) (append_assoc (decimal k) (32 ∷ []) rest)

pub verdict_pushed : (items : List JudgedItem) (verdicts : List Verdict) (k : ℕ) (d : JudgedItem) (e : Verdict) (first text more : List ℕ) → k < length items → length verdicts ≡ length items
    → text ++ judged_verdict_lines k (drop k items) (drop k verdicts) ≡ first → more ≡ text ++ judged_verdict_line k (get_or items k d) (get_or verdicts k e)
    → more ++ judged_verdict_lines (k + 1) (drop (k + 1) items) (drop (k + 1) verdicts) ≡ first
verdict_pushed items verdicts k d e first text more lt count before is =
    ap (λ t. t ++ judged_verdict_lines (k + 1) (drop (k + 1) items) (drop (k + 1) verdicts)) is
    ∙ append_assoc text (judged_verdict_line k (get_or items k d) (get_or verdicts k e)) (judged_verdict_lines (k + 1) (drop (k + 1) items) (drop (k + 1) verdicts))
    ∙ sym (ap (λ l. text ++ l) (both_next items verdicts k d e lt (omega (arith, lt, count)))) ∙ before

pub verdicts_pushed : (items : List JudgedItem) (verdicts : List Verdict) (k : ℕ) (first text : List ℕ) → length items ≤ k → text ++ judged_verdict_lines k (drop k items) (drop k verdicts) ≡ first → text ≡ first
verdicts_pushed items verdicts k first text le before = sym (append-nil text) ∙ sym (ap (λ l. text ++ judged_verdict_lines k l (drop k verdicts)) (drop_all k items le)) ∙ before

-- a certificate without a path, verdict by verdict

pub pathless_here : (verdicts : List Verdict) (k : ℕ) (d : Verdict) → k < length verdicts → has_pathless (drop k verdicts) ≡ has_pathless verdicts → is_pathless (get_or verdicts k d) ≡ true → NotEach ≡ outcome_of_all verdicts
pathless_here verdicts k d lt before is =
    let here : has_pathless verdicts ≡ true = sym before ∙ ap has_pathless (drop_next verdicts k d lt) ∙ ap (λ b. b || has_pathless (drop (k + 1) verdicts)) is in
    sym (ap (λ b. if b then NotEach else Each) here)

pub pathless_further : (verdicts : List Verdict) (k : ℕ) (d : Verdict) → k < length verdicts → has_pathless (drop k verdicts) ≡ has_pathless verdicts → is_pathless (get_or verdicts k d) ≡ false → has_pathless (drop (k + 1) verdicts) ≡ has_pathless verdicts
pathless_further verdicts k d lt before is = sym (ap has_pathless (drop_next verdicts k d lt) ∙ ap (λ b. b || has_pathless (drop (k + 1) verdicts)) is) ∙ before

pub none_pathless : (verdicts : List Verdict) (k : ℕ) → length verdicts ≤ k → has_pathless (drop k verdicts) ≡ has_pathless verdicts → Each ≡ outcome_of_all verdicts
none_pathless verdicts k le before = sym (ap (λ b. if b then NotEach else Each) (sym before ∙ ap has_pathless (drop_all k verdicts le)))

-- judged items show what their classes are

same_verdict_line : (moment : CivilTime) (x : Item) (j : JudgedItem) (k : ℕ) (v : Verdict) → judged_word j ≡ class_word x.class → judged_verdict_line k j v ≡ decimal k ++ (32 ∷ verdict_end x.class v)
same_verdict_line moment x j k (FirstPath positions anchor) e = refl
same_verdict_line moment x j k Pathless e = refl
same_verdict_line moment x j k NoCertificate e = ap (λ w. decimal k ++ (32 ∷ (w ++ 10 ∷ []))) e

pub same_verdict_lines : (moment : CivilTime) (xs : List Item) (js : List JudgedItem) (vs : List Verdict) (k : ℕ) → AreJudged moment xs js → judged_verdict_lines k js vs ≡ verdict_lines k xs vs
same_verdict_lines moment [] [] vs k a = refl
same_verdict_lines moment [] (j ∷ js) vs k a = absurd (omega (arith, a.count))
same_verdict_lines moment (x ∷ xs) [] vs k a = absurd (omega (arith, a.count))
same_verdict_lines moment (x ∷ xs) (j ∷ js) [] k a = refl
same_verdict_lines moment (x ∷ xs) (j ∷ js) (v ∷ vs) k a =
    let both = judged_first moment x xs j js a in
    ap (λ l. l ++ judged_verdict_lines (k + 1) js vs) (same_verdict_line moment x j k v (same_word moment x j both.0))
    ∙ ap (λ l. (decimal k ++ (32 ∷ verdict_end x.class v)) ++ l) (same_verdict_lines moment xs js vs (k + 1) both.1)

pub same_all_report : (lines : List ℕ) (moment : CivilTime) (xs ys : List Item) (js hs : List JudgedItem) (end anchors_end : End) (vs : List Verdict) (said : Bool) → AreJudged moment xs js → AreJudged moment ys hs
    → judged_all_report lines js end hs anchors_end vs said ≡ all_report_with lines xs end ys anchors_end vs said
same_all_report lines moment xs ys js hs end anchors_end vs said a b =
    let behind = lines ++ check_line said in
    ap (λ l. l ++ (end_line end ++ (counts_line (certificates_of hs) (length hs) anchors_end ++ behind))) (same_verdict_lines moment xs js vs 0 a)
    ∙ ap (λ n. verdict_lines 0 xs vs ++ (end_line end ++ (counts_line n (length hs) anchors_end ++ behind))) (same_certificates moment ys hs b)
    ∙ ap (λ n. verdict_lines 0 xs vs ++ (end_line end ++ (counts_line (certificates_among ys) n anchors_end ++ behind))) b.count

-- what the check of all says of an adequate inventory
pub all_said_yes : (r : JudgingContext) (items anchors : List (List ℕ)) (xs ys cs ds : List Item) (inventory : Inventory) (said : Bool) → AreClassed items xs → AreClassed anchors ys → AreClassed items cs → AreClassed anchors ds
    → (IsTrue said ↔ IsAdequateInventory (graph_of_items r cs ds) inventory) → IsAdequateInventory (graph_of_items r xs ys) inventory → IsTrue said
all_said_yes r items anchors xs ys cs ds inventory said p q p' q' exact adequate =
    let a = one_classing items xs cs p p' in
    let b = one_classing anchors ys ds q q' in
    exact.1 (subst (λ l. IsAdequateInventory (graph_of_items r l ds) inventory) a (subst (λ l. IsAdequateInventory (graph_of_items r xs l) inventory) b adequate))

-- the report of an inventory, beside its evidence
one_finding : (purpose : Option AskedPurpose) (lines : List ℕ) (settings : AllSettings) (outcome : AllOutcome) (inventory : Inventory) (items anchors : Framed) (text shown : List ℕ) (vouches : Vouching)
    → IsAllReportBy lines settings outcome inventory items anchors text vouches → shown ≡ purpose_line purpose ++ evidence (told_by inventory)
    → (report : IsAllReportWith lines (rules_by settings.policy.moment settings.policy.demand_lists vouches) items anchors text outcome) × (shown ≡ purpose_line purpose ++ evidence (told_by report.inventory))
one_finding purpose lines settings outcome inventory items anchors text shown vouches r is = (r.0, is ∙ ap (λ i. purpose_line purpose ++ evidence (told_by i)) (sym r.1))

pub findings_of : (settings : AllSettings) (demand : Demand) (outcome : AllOutcome) (inventory : Inventory) (items anchors : Framed) (pairs : Vouchers) (text shown : List ℕ) → IsAllReportOf settings demand outcome inventory items anchors pairs text
    → shown ≡ purpose_line demand.purpose ++ evidence (told_by inventory) → AreFindingsFor settings demand outcome shown items anchors pairs text
findings_of settings demand outcome inventory items anchors pairs text shown report is =
    shown_by demand.purpose demand.host report
    (λ (r : IsAllReportBy (demand_lines demand) settings outcome inventory items anchors text (VouchesBy pairs)).
    one_finding demand.purpose (demand_lines demand) settings outcome inventory items anchors text shown (VouchesBy pairs) r is)
    (λ (q : (permits : Permits) × ArePermitsOf (demanded demand (target_octets items.items (length items.items))) items.items permits
    × IsAllReportBy (demand_lines demand) settings outcome inventory items anchors text (VouchesWhere permits pairs)).
    (q.0, q.1, one_finding demand.purpose (demand_lines demand) settings outcome inventory items anchors text shown (VouchesWhere q.0 pairs) q.2 is))

-- the report of an inventory is a report
pub report_alone : {E : Type 0} (settings : AllSettings) (demand : Demand) (items anchors : Framed) (pairs : Vouchers) (result : Result ReportedAll E)
    → IfOk result (λ r. IsAllReportOf settings demand r.outcome r.inventory items anchors pairs (string_bytes r.text)) → IfOk result (λ r. IsAllReportFor settings demand r.outcome items anchors pairs (string_bytes r.text))
report_alone settings demand items anchors pairs (Ok r) h = shown_by demand.purpose demand.host h (λ b. b.0) (λ q. (q.0, q.1, q.2.0))
report_alone settings demand items anchors pairs (Err e) h = tt
