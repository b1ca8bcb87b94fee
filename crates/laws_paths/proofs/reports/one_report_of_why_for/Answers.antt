use Rattle.std.proofs.Common.{Some}
use Rattle.cert_judge.specs.Items.{rules_by}
use Rattle.certpath_inputs.specs.Demands.{VouchesWhere, of_purpose}
use Rattle.certpath_run.specs.Runs.{VouchesAnyWhere}
use Rattle.laws_paths.proofs.OfReports.{empty_is_right, none_refused, none_to_permit}
use Rattle.laws_paths.proofs.OneReport.{one_report_for}
use Rattle.laws_paths.proofs.reports.one_report_of_why_for.Goals as goal

pub returns-clause-one : goal.returns-clause-one
returns-clause-one c = one_report_for

pub returns-clause-example : goal.returns-clause-example
returns-clause-example c = λ settings purpose pairs.
    let moment = settings.policy.moment in
    let lists = settings.policy.demand_lists in (
      none_refused,
      none_to_permit purpose settings.target,
      empty_is_right (of_purpose (Some purpose)) (rules_by moment lists (VouchesAnyWhere none_refused pairs)) (rules_by moment lists (VouchesWhere none_refused pairs)) settings.target,
    )
