use Rattle.std.proofs.Common.{◌≡◌, drop}
use Rattle.certpath_run.specs.AllReport.{has_pathless}
use Rattle.certpath_run.proofs.report_all.outcome_of_all.Given as goal

abbrev pub invariant-loop-verdict : goal.invariant-loop-verdict
invariant-loop-verdict l = has_pathless (drop l.verdict-index l.verdicts) ≡ has_pathless l.verdicts
