use Rattle.std.proofs.Common.{refl, inl}
use Rattle.certpath_inputs.specs.Demands.{of_purpose}
use Rattle.certpath_c.specs.Demands.{IsDemandOfAll}
use Rattle.certpath_c.specs.Reports.{all_settings, IsPathsReport}
use Rattle.certpath_c.proofs.ReportFacts.{answered}
use Rattle.certpath_c.proofs.reports.certpath_paths.Goals as goal

pub returns : goal.returns
returns c =
    let settings = c.args.settings.now in
    let purpose = c.asked_purpose-purpose.result in
    inl
    (answered (IsDemandOfAll settings) (λ p. IsPathsReport (all_settings settings p)) c.args.bundle.now c.args.anchors.now c.args.vouchers.now settings c.in-Some.policy (of_purpose purpose) c.report_text-found.result
    c.args.text.now c.put_report.new.text c.args.report.now c.put_report.new.report c.put_report.result c.in-Some.ensures.found (record { purpose = c.asked_purpose-purpose.ensures; host = refl }) c.report_text-found.ensures.ok
    c.report_text-found.ensures.bad_line c.put_report.ensures)
