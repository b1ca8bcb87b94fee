use Rattle.std.proofs.Common.{refl, inl, inr}
use Rattle.certpath_inputs.specs.declared.demand.Demand.{Demand}
use Rattle.certpath_c.specs.Demands.{IsDemandOf}
use Rattle.certpath_c.specs.Reports.{run_settings, IsPathReport}
use Rattle.certpath_c.proofs.ReportFacts.{answered}
use Rattle.certpath_c.proofs.reports.certpath_path.Goals as goal

pub returns : goal.returns
returns c =
    let settings = c.args.settings.now in
    let policy = c.in-Some.policy in
    let demand : Demand = record { purpose = c.asked_purpose.result; host = c.in-Ok.host } in
    let is_demand : IsDemandOf settings demand = record { purpose = c.asked_purpose.ensures; host = c.in-Ok.ensures } in
    let judged = c.asked_of-judged.ensures in
    let found = rw judged at c.report_text-found.ensures.ok in
    inl
    (answered (IsDemandOf settings) (λ p. IsPathReport (run_settings settings p)) c.args.bundle.now c.args.anchors.now c.args.vouchers.now settings policy demand c.report_text-found.result
    c.args.text.now c.put_report.new.text c.args.report.now c.put_report.new.report c.put_report.result c.in-Some.ensures.found is_demand found c.report_text-found.ensures.bad_line c.put_report.ensures)

pub returns-in_default-asked_host : goal.returns-in_default-asked_host
returns-in_default-asked_host c = inr (inr (refl, (c.in-Some.policy, c.in-Some.ensures.found), c.in_default-asked_host.ensures, (refl, refl)))
