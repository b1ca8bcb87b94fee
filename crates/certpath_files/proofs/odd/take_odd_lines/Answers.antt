use Rattle.std.proofs.Common.{false, arith}
use Rattle.certpath_pem.specs.Lines.{lines_of}
use Rattle.certpath_files.specs.Rows.{added}
use Rattle.certpath_files.specs.ReportViews.{held_in}
use Rattle.certpath_files.specs.Odd.{odd_rows}
use Rattle.certpath_files.proofs.LoopFacts.{lines_step, line_shorter}
use Rattle.certpath_files.proofs.odd.take_odd_lines.Goals as goal

pub loop-line-preserved : goal.loop-line-preserved
loop-line-preserved c = record {
  rows = lines_step (held_in c.loop-line.report) (held_in c.take_line.new.report) (added (held_in c.args.report.now) (odd_rows false 1 (lines_of c.args.text.now))) c.loop-line.rest.now c.in-Some.line.now c.in-Some.after.now c.loop-line.is_quiet
      c.in_ok-is_quiet.is_quiet c.loop-line.number c.in-Some.ensures.found c.in_ok-is_quiet.ensures.quiet c.in_ok-is_quiet.ensures.added c.loop-line.invariant.rows;
  few = omega (arith, line_shorter c.loop-line.rest.now c.in-Some.line.now c.in-Some.after.now c.in-Some.ensures.found);
}
