use Rattle.certpath_run.proofs.ReportFacts.{Counted}
use Rattle.certpath_run.proofs.report.count_certificates.Given as goal

abbrev pub invariant-loop-item : goal.invariant-loop-item
invariant-loop-item l = Counted l.items l.item-index l.count
