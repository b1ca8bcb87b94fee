use Rattle.std.proofs.Common.{◌≡◌, ◌++◌, drop, string_bytes}
use Rattle.certpath_run.specs.JudgedReport.{judged_lines}
use Rattle.certpath_run.proofs.report.push_items.Given as goal

abbrev pub invariant-loop-k : goal.invariant-loop-k
invariant-loop-k l = string_bytes l.text ++ judged_lines l.k (drop l.k l.items) ≡ string_bytes l.initial.text ++ judged_lines 0 l.items
