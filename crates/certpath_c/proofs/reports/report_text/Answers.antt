use Rattle.certpath_c.proofs.ReportFacts.{has_report}
use Rattle.certpath_c.proofs.reports.report_text.Goals as goal

pub returns-clause-ok : goal.returns-clause-ok
returns-clause-ok g c = has_report (g.T.Reports.is_right c.args.asked.now) _ _ _ _ _ _ _ _ _ _ _ _ c.new.ensures c.new-2.ensures c.new-3.ensures c.in_ok-text.ensures.ok
