use Rattle.std.proofs.Common.{[]}
use Rattle.cert_judge.specs.Items.{rules_by}
use Rattle.certpath_inputs.specs.Inputs.{VouchesBy}
use Rattle.certpath_run.proofs.EmptyReports.{all_report_is_right}
use Rattle.certpath_run.proofs.OneReport.{one_text_of_all}
use Rattle.certpath_run.proofs.laws_of_reports.one_report_on_all.Goals as goal

pub returns : goal.returns
returns c = record {
  one = λ settings items anchors pairs text another outcome other.
      one_text_of_all [] (rules_by settings.policy.moment settings.policy.demand_lists (VouchesBy pairs)) items anchors text another outcome other;
  example = λ settings pairs. all_report_is_right [] (rules_by settings.policy.moment settings.policy.demand_lists (VouchesBy pairs)) pairs.alloc;
}
