use Rattle.std.proofs.Common.{◌≡◌, length}
use Rattle.std.specs.List.{flat_map}
use Rattle.certpath_pem.specs.Blocks.{entries_of}
use Rattle.certpath_pem.specs.Views.{entries_left}
use Rattle.certpath_files.specs.Rows.{added}
use Rattle.certpath_files.specs.ReportViews.{held_in}
use Rattle.certpath_files.specs.Blocks.{entry_rows}
use Rattle.certpath_files.proofs.blocks.take_entries.Given as goal

abbrev pub invariant-loop-entry : goal.invariant-loop-entry
invariant-loop-entry l = added (held_in l.report) (flat_map entry_rows (entries_left l.cursor)) ≡ added (held_in l.fn.report) (flat_map entry_rows (entries_of l.text))

abbrev pub decreases-loop-entry : goal.decreases-loop-entry
decreases-loop-entry l = length (entries_left l.cursor)
