use Rattle.std.proofs.Common.{◌≡◌, [], ◌∷◌, ◌++◌, drop, string_bytes}
use Rattle.std.specs.List.{flat_map}
use Rattle.certpath_evidence.specs.Evidence.{said_by, verdict_line}
use Rattle.certpath_evidence.proofs.writing.write_verdicts.Given as goal

abbrev pub invariant-loop-verdict : goal.invariant-loop-verdict
invariant-loop-verdict l = string_bytes l.text ++ flat_map (λ v. verdict_line (said_by v) ++ 10 ∷ []) (drop l.verdict-index l.verdicts) ≡ string_bytes l.initial.text ++ flat_map (λ v. verdict_line (said_by v) ++ 10 ∷ []) l.verdicts
