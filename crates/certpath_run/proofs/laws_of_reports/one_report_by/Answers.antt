use Rattle.cert_judge.specs.Items.{rules_at}
use Rattle.certpath_run.proofs.EmptyReports.{report_is_right, all_report_is_right}
use Rattle.certpath_run.proofs.OneReport.{one_text, one_text_of_all}
use Rattle.certpath_run.proofs.laws_of_reports.one_report_by.Goals as goal

pub returns : goal.returns
returns g c = record {
  one = λ lines moment demand. one_text lines (rules_at moment demand (g.V.Vouch.vouches_for c.args._vouch.now));
  example = λ lines moment demand target. report_is_right lines (rules_at moment demand (g.V.Vouch.vouches_for c.args._vouch.now)) target;
  one_on_all = λ lines moment demand. one_text_of_all lines (rules_at moment demand (g.V.Vouch.vouches_for c.args._vouch.now));
  example_on_all = λ alloc lines moment demand. all_report_is_right lines (rules_at moment demand (g.V.Vouch.vouches_for c.args._vouch.now)) alloc;
}
