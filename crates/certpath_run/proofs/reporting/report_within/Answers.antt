use Rattle.std.proofs.Common.{string_bytes}
use Rattle.cert_judge.specs.Items.{rules_by}
use Rattle.certpath_inputs.specs.Demands.{demand_lines}
use Rattle.certpath_run.specs.Runs.{IsReportWith}
use Rattle.certpath_inputs.proofs.DemandFacts.{of_ok}
use Rattle.certpath_run.proofs.Within.{by_equal}
use Rattle.certpath_run.proofs.reporting.report_within.Goals as goal

pub returns : goal.returns
returns c =
    let inputs = c.args.inputs.now in
    let policy = c.args.settings.now.policy in
    of_ok _ _ (λ r h. (
      c.in_ok-permits.permits,
      c.in_ok-permits.ensures,
      by_equal (λ V. IsReportWith (demand_lines c.args.demand.now) (rules_by policy.moment policy.demand_lists V) inputs.items inputs.anchors c.args.settings.now.target (string_bytes r.text) r.outcome)
          _ _ _ _ c.new-restricted.ensures.vouch c.new-restricted.ensures.permit h,
    )) c.report_by.result c.report_by.ensures
