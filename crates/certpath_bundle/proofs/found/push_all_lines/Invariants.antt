use Rattle.std.proofs.Common.{◌≡◌, ◌++◌, take, string_bytes}
use Rattle.std.specs.List.{flat_map}
use Rattle.certpath_bundle.specs.Lines.{file_lines}
use Rattle.certpath_bundle.specs.Views.{found_view}
use Rattle.certpath_bundle.proofs.found.push_all_lines.Given as goal

abbrev pub invariant-loop-one : goal.invariant-loop-one
invariant-loop-one l = string_bytes l.text ≡ string_bytes l.initial.text ++ flat_map (λ one. file_lines (found_view one).name (found_view one).held.rows) (take l.one-index l.found)
