use Rattle.std.proofs.Common.{subst, string_bytes, IfOk}
use Rattle.certpath_run.specs.AllReport.{AreFindingsFor}
use Rattle.certpath_run.proofs.reports.EvidenceReportReports.report.Goals as goal

pub returns : goal.returns
returns c =
    let inputs = c.args.inputs.now in
    subst (λ d. IfOk c.findings_on.result (λ r. AreFindingsFor c.args.self.now.settings.now d r.outcome.outcome (string_bytes r.outcome.evidence) inputs.items inputs.anchors inputs.vouchers (string_bytes r.text))) c.for_purpose-demand.ensures c.findings_on.ensures
