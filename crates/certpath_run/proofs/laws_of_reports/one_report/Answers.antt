use Rattle.std.proofs.Common.{[]}
use Rattle.cert_judge.specs.Items.{rules_by}
use Rattle.certpath_inputs.specs.Inputs.{VouchesBy}
use Rattle.certpath_run.proofs.EmptyReports.{report_is_right}
use Rattle.certpath_run.proofs.OneReport.{one_text}
use Rattle.certpath_run.proofs.laws_of_reports.one_report.Goals as goal

pub returns : goal.returns
returns c = record {
  one = λ settings items anchors pairs text another outcome other.
      one_text [] (rules_by settings.policy.moment settings.policy.demand_lists (VouchesBy pairs)) items anchors settings.target text another outcome other;
  example = λ settings pairs. report_is_right [] (rules_by settings.policy.moment settings.policy.demand_lists (VouchesBy pairs)) settings.target;
}
