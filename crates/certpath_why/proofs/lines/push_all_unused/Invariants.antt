use Rattle.std.proofs.Common.{◌≡◌, ◌++◌, take, string_bytes}
use Rattle.std.specs.List.{flat_map}
use Rattle.cert_model.specs.View.{list_view}
use Rattle.certpath_why.specs.Lines.{unused_line}
use Rattle.certpath_why.proofs.lines.push_all_unused.Given as goal

abbrev pub invariant-loop-reason : goal.invariant-loop-reason
invariant-loop-reason l = string_bytes l.text ≡ string_bytes l.initial.text ++ flat_map (unused_line l.place (list_view l.fields)) (take l.reason-index l.reasons)
