use Rattle.std.proofs.Common.{◌≡◌, take}
use Rattle.std.specs.List.{fold}
use Rattle.certpath_files.specs.RowViews.{row_view}
use Rattle.certpath_bundle.specs.Counts.{with_row}
use Rattle.certpath_bundle.specs.CountViews.{counts_view}
use Rattle.certpath_bundle.proofs.counts.with_rows.Given as goal

abbrev pub invariant-loop-row : goal.invariant-loop-row
invariant-loop-row l = counts_view l.more ≡ fold (λ counts row. with_row counts (row_view row)) (counts_view l.fn.counts) (take l.row-index l.rows)
