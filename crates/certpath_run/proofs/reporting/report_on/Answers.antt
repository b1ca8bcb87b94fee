use Rattle.std.proofs.Common.{◌≡◌, ◌∙◌, sym, subst, string_bytes, true, false}
use Rattle.cert_judge.specs.Items.{rules_by}
use Rattle.certpath_inputs.specs.cert_serving.specs.declared.permits.Permits.{Permits}
use Rattle.certpath_inputs.specs.Inputs.{VouchesBy}
use Rattle.certpath_inputs.specs.Demands.{ArePermitsOf, VouchesWhere, demand_lines, demanded, is_none, target_octets}
use Rattle.certpath_inputs.proofs.DemandFacts.{of_ok, on_neither, on_some}
use Rattle.certpath_run.specs.Runs.{IsReportWith}
use Rattle.certpath_run.proofs.reporting.report_on.Goals as goal

pub returns-then-is_none : goal.returns-then-is_none
returns-then-is_none c =
    let settings = c.args.settings.now in
    let policy = settings.policy in
    let demand = c.args.demand.now in
    let inputs = c.args.inputs.now in
    let none : is_none demand ≡ true = sym c.is_none.ensures ∙ c.if-is_none.true in
    of_ok _ _ (λ r h. on_neither demand.purpose demand.host _ _ none
    (subst (λ v. IsReportWith (demand_lines demand) (rules_by policy.moment policy.demand_lists (VouchesBy v)) inputs.items inputs.anchors settings.target (string_bytes r.text) r.outcome) c.remembered_for-remembered.ensures h)) c.report_by.result c.report_by.ensures

pub returns : goal.returns
returns c =
    let settings = c.args.settings.now in
    let policy = settings.policy in
    let demand = c.args.demand.now in
    let inputs = c.args.inputs.now in
    let some : is_none demand ≡ false = sym c.is_none.ensures ∙ c.if-is_none.false in
    of_ok _ _ (λ r h. on_some demand.purpose demand.host _ _ some
    (subst (λ v. (permits : Permits) × ArePermitsOf (demanded demand (target_octets inputs.items.items settings.target)) inputs.items.items permits
    × IsReportWith (demand_lines demand) (rules_by policy.moment policy.demand_lists (VouchesWhere permits v)) inputs.items inputs.anchors settings.target (string_bytes r.text) r.outcome)
    c.remembered_for-remembered.ensures h)) c.report_within.result c.report_within.ensures
