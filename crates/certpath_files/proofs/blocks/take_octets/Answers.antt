use Rattle.std.proofs.Common.{◌∙◌, ap, take, arith}
use Rattle.certpath_files.specs.Rows.{added}
use Rattle.certpath_files.specs.RowViews.{spot_view}
use Rattle.certpath_files.specs.ReportViews.{held_in}
use Rattle.certpath_files.specs.Blocks.{after_rows}
use Rattle.certpath_files.specs.SequenceViews.{wanted_view}
use Rattle.certpath_files.proofs.LoopFacts.{on_ok, octets_added}
use Rattle.certpath_files.proofs.blocks.take_octets.Goals as goal

pub returns-in_ok-take_sequence-in-Whole : goal.returns-in_ok-take_sequence-in-Whole
returns-in_ok-take_sequence-in-Whole c =
    on_ok c.leave_after.result _ _ c.leave_after.ensures
    (
    λ last. octets_added (held_in c.args.report.now) (held_in c.take_sequence.new.report) (held_in c.leave_after.new.report) (wanted_view c.args.wanted) c.args.may_go_on (spot_view c.args.spot) c.args.octets.now _ c.args.count c.in-Whole.size
    c.in-Whole.ensures.value c.in_ok-take_sequence-in-Whole.ensures (ap (λ n. take n c.args.octets.now) (omega arith))
    (last ∙ ap (λ n. added (held_in c.take_sequence.new.report) (after_rows c.args.may_go_on (spot_view c.args.spot) n)) c.saturating_sub.ensures)
    )
