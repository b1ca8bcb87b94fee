use Rattle.std.proofs.Common.{◌≡◌, ◌+◌, ◌-◌, ◌≤◌, length}
use Rattle.certpath_files.specs.Rows.{added}
use Rattle.certpath_files.specs.RowViews.{spot_view}
use Rattle.certpath_files.specs.ShapeViews.{kind_view}
use Rattle.certpath_files.specs.ReportViews.{held_in}
use Rattle.certpath_files.specs.Walks.{walk}
use Rattle.certpath_files.specs.Sequences.{member_front, rows_of_member, member_rows}
use Rattle.certpath_files.proofs.members.take_members.Given as goal

abbrev pub invariant-loop-rest : goal.invariant-loop-rest
invariant-loop-rest l = record {
  rows : added (held_in l.report) (walk member_front (rows_of_member (spot_view l.spot) (kind_view l.set)) 0 (length l.content - length l.rest) l.number l.rest)
      ≡ added (held_in l.fn.report) (member_rows (spot_view l.spot) (kind_view l.set) l.content);
  few : l.number + length l.rest ≤ length l.content;
}

abbrev pub decreases-loop-rest : goal.decreases-loop-rest
decreases-loop-rest l = length l.rest
