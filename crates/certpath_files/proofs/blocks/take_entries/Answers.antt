use Rattle.std.specs.List.{flat_map}
use Rattle.certpath_pem.specs.Views.{entry_view, entries_left}
use Rattle.certpath_pem.specs.Blocks.{entries_of}
use Rattle.certpath_files.specs.Rows.{added}
use Rattle.certpath_files.specs.ReportViews.{held_in}
use Rattle.certpath_files.specs.Blocks.{entry_rows}
use Rattle.certpath_files.proofs.LoopFacts.{entries_step}
use Rattle.certpath_files.proofs.blocks.take_entries.Goals as goal

pub loop-entry-preserved : goal.loop-entry-preserved
loop-entry-preserved c =
    entries_step (held_in c.loop-entry.report) (held_in c.take_entry.new.report) (added (held_in c.args.report.now) (flat_map entry_rows (entries_of c.args.text.now))) (entries_left c.loop-entry.cursor)
    (entries_left c.next_entry.new.self) (entry_view c.in-Some.entry) c.in-Some.ensures.found c.in_ok-take_entry.ensures c.loop-entry.invariant
