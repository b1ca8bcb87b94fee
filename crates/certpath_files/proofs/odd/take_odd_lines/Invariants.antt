use Rattle.std.proofs.Common.{◌≡◌, ◌+◌, ◌≤◌, length, false}
use Rattle.certpath_pem.specs.Lines.{lines_of}
use Rattle.certpath_files.specs.Rows.{added}
use Rattle.certpath_files.specs.ReportViews.{held_in}
use Rattle.certpath_files.specs.Odd.{odd_rows}
use Rattle.certpath_files.proofs.odd.take_odd_lines.Given as goal

abbrev pub invariant-loop-line : goal.invariant-loop-line
invariant-loop-line l = record {
  rows : added (held_in l.report) (odd_rows l.is_quiet l.number (lines_of l.rest)) ≡ added (held_in l.fn.report) (odd_rows false 1 (lines_of l.text));
  few : l.number + length l.rest ≤ 1 + length l.text;
}

abbrev pub decreases-loop-line : goal.decreases-loop-line
decreases-loop-line l = length l.rest
