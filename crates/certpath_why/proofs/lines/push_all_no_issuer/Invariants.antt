use Rattle.std.proofs.Common.{◌≡◌, ◌++◌, take, string_bytes}
use Rattle.std.specs.List.{flat_map}
use Rattle.certpath_why.specs.Lines.{issuer_line}
use Rattle.certpath_why.proofs.lines.push_all_no_issuer.Given as goal

abbrev pub invariant-loop-reason : goal.invariant-loop-reason
invariant-loop-reason l = string_bytes l.text ≡ string_bytes l.initial.text ++ flat_map (issuer_line l.place) (take l.reason-index l.reasons)
