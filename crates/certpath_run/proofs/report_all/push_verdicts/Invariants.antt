use Rattle.std.proofs.Common.{◌≡◌, ◌++◌, drop, string_bytes}
use Rattle.certpath_run.specs.JudgedReport.{judged_verdict_lines}
use Rattle.certpath_run.proofs.report_all.push_verdicts.Given as goal

abbrev pub invariant-loop-k : goal.invariant-loop-k
invariant-loop-k l = string_bytes l.text ++ judged_verdict_lines l.k (drop l.k l.items) (drop l.k l.verdicts) ≡ string_bytes l.initial.text ++ judged_verdict_lines 0 l.items l.verdicts
