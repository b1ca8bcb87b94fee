use Rattle.std.proofs.Common.{◌≡◌, ◌++◌, take, string_bytes}
use Rattle.std.specs.List.{flat_map}
use Rattle.cert_model.specs.View.{certificate_view}
use Rattle.certpath_why.specs.Lines.{unusable_line}
use Rattle.certpath_why.proofs.lines.push_all_unusable.Given as goal

abbrev pub invariant-loop-reason : goal.invariant-loop-reason
invariant-loop-reason l = string_bytes l.text ≡ string_bytes l.initial.text ++ flat_map (unusable_line l.place (certificate_view l.fields)) (take l.reason-index l.reasons)
