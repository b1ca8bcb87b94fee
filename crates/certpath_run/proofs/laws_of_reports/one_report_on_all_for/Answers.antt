use Rattle.std.proofs.Common.{Some}
use Rattle.cert_judge.specs.Items.{rules_by}
use Rattle.certpath_inputs.specs.Demands.{VouchesWhere, demand_lines, of_purpose}
use Rattle.certpath_run.proofs.EmptyReports.{none_refused, none_to_permit, all_report_is_right}
use Rattle.certpath_run.proofs.OneReport.{one_text_of_all_for}
use Rattle.certpath_run.proofs.laws_of_reports.one_report_on_all_for.Goals as goal

pub returns : goal.returns
returns c = record {
  one = one_text_of_all_for;
  example = λ settings purpose pairs. (
    none_refused,
    none_to_permit purpose 0,
    all_report_is_right (demand_lines (of_purpose (Some purpose))) (rules_by settings.policy.moment settings.policy.demand_lists (VouchesWhere none_refused pairs)) pairs.alloc,
  );
}
