use Rattle.certpath_files.specs.RowViews.{row_view}
use Rattle.certpath_bundle.specs.Lines.{row_line}
use Rattle.certpath_bundle.proofs.Loops.{mapped_all}
use Rattle.certpath_bundle.proofs.lines.push_lines.Goals as goal

pub returns : goal.returns
returns c = mapped_all (row_line c.args.name.now) row_view c.args.rows.now c.loop-row.row-index _ _ c.loop-row-test.false c.loop-row.invariant
