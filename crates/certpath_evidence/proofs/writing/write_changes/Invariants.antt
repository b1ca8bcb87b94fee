use Rattle.std.proofs.Common.{◌≡◌, [], ◌∷◌, ◌++◌, drop, string_bytes}
use Rattle.std.specs.List.{flat_map}
use Rattle.certpath_evidence.specs.Evidence.{change_line}
use Rattle.certpath_evidence.proofs.writing.write_changes.Given as goal

abbrev pub invariant-loop-change : goal.invariant-loop-change
invariant-loop-change l = string_bytes l.text ++ flat_map (λ c. change_line c ++ 10 ∷ []) (drop l.change-index l.changes) ≡ string_bytes l.initial.text ++ flat_map (λ c. change_line c ++ 10 ∷ []) l.changes
