use Rattle.std.proofs.Common.{◌≡◌, ◌++◌, take, string_bytes}
use Rattle.std.specs.List.{flat_map}
use Rattle.certpath_files.specs.RowViews.{row_view}
use Rattle.certpath_bundle.specs.Lines.{row_line}
use Rattle.certpath_bundle.proofs.lines.push_lines.Given as goal

abbrev pub invariant-loop-row : goal.invariant-loop-row
invariant-loop-row l = string_bytes l.text ≡ string_bytes l.initial.text ++ flat_map (λ row. row_line l.name (row_view row)) (take l.row-index l.rows)
