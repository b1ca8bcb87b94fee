use Rattle.std.proofs.Common.{◌≡◌, ◌++◌, drop, string_bytes}
use Rattle.std.specs.List.{flat_map}
use Rattle.certpath_evidence.specs.Evidence.{ended, row_lines}
use Rattle.certpath_evidence.proofs.writing.write_rows.Given as goal

abbrev pub invariant-loop-step : goal.invariant-loop-step
invariant-loop-step l = string_bytes l.text ++ flat_map (λ s. ended (row_lines s.items)) (drop l.step-index l.steps) ≡ string_bytes l.initial.text ++ flat_map (λ s. ended (row_lines s.items)) l.steps
