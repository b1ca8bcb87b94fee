use Rattle.std.proofs.Common.{subst, string_bytes}
use Rattle.certpath_run.specs.AllReport.{IsAllReportFor}
use Rattle.certpath_run.proofs.reports.PathsReportReports.report.Goals as goal

pub returns : goal.returns
returns c =
    let inputs = c.args.inputs.now in
    let reported = c.in_ok-text.field-0 in
    subst (λ d. IsAllReportFor c.args.self.now.settings.now d reported.outcome inputs.items inputs.anchors inputs.vouchers (string_bytes reported.text)) c.for_purpose-demand.ensures c.in_ok-text.ensures.report
