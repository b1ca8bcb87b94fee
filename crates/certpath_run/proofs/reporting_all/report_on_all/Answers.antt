use Rattle.std.proofs.Common.{◌≡◌, ◌∙◌, length, sym, subst, string_bytes, true, false}
use Rattle.certpath_inputs.specs.cert_serving.specs.declared.permits.Permits.{Permits}
use Rattle.certpath_inputs.specs.Inputs.{VouchesBy}
use Rattle.certpath_inputs.specs.Demands.{ArePermitsOf, VouchesWhere, demand_lines, demanded, is_none, target_octets}
use Rattle.certpath_inputs.proofs.DemandFacts.{of_ok, on_neither, on_some}
use Rattle.certpath_run.specs.AllReport.{IsAllReportBy}
use Rattle.certpath_run.proofs.InventoryFacts.{report_alone}
use Rattle.certpath_run.proofs.reporting_all.report_on_all.Goals as goal

pub returns-then-is_none-clause-inventory : goal.returns-then-is_none-clause-inventory
returns-then-is_none-clause-inventory c =
    let demand = c.args.demand.now in
    let inputs = c.args.inputs.now in
    let none : is_none demand ≡ true = sym c.is_none.ensures ∙ c.if-is_none.true in
    of_ok _ _ (λ r h. on_neither demand.purpose demand.host _ _ none
    (subst (λ v. IsAllReportBy (demand_lines demand) c.args.settings.now r.outcome r.inventory inputs.items inputs.anchors (string_bytes r.text) (VouchesBy v)) c.remembered_for-remembered.ensures h))
    c.report_all_by.result c.report_all_by.ensures

pub returns-then-is_none-clause-report : goal.returns-then-is_none-clause-report
returns-then-is_none-clause-report c = report_alone c.args.settings.now c.args.demand.now c.args.inputs.now.items c.args.inputs.now.anchors c.args.inputs.now.vouchers c.report_all_by.result (returns-then-is_none-clause-inventory c)

pub returns-clause-inventory : goal.returns-clause-inventory
returns-clause-inventory c =
    let demand = c.args.demand.now in
    let inputs = c.args.inputs.now in
    let items = inputs.items.items in
    let some : is_none demand ≡ false = sym c.is_none.ensures ∙ c.if-is_none.false in
    of_ok _ _ (λ r h. on_some demand.purpose demand.host _ _ some
    (subst (λ v. (permits : Permits) × ArePermitsOf (demanded demand (target_octets items (length items))) items permits
    × IsAllReportBy (demand_lines demand) c.args.settings.now r.outcome r.inventory inputs.items inputs.anchors (string_bytes r.text) (VouchesWhere permits v)) c.remembered_for-remembered.ensures h))
    c.report_all_within.result c.report_all_within.ensures

pub returns-clause-report : goal.returns-clause-report
returns-clause-report c = report_alone c.args.settings.now c.args.demand.now c.args.inputs.now.items c.args.inputs.now.anchors c.args.inputs.now.vouchers c.report_all_within.result (returns-clause-inventory c)
