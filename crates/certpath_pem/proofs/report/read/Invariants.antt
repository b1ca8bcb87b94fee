use Rattle.std.proofs.Common.{◌≡◌, ◌++◌, length, map}
use Rattle.certpath_pem.specs.Blocks.{entries_of}
use Rattle.certpath_pem.specs.Views.{entry_view, entries_left}
use Rattle.certpath_pem.proofs.report.read.Given as goal

abbrev pub invariant-loop-entry : goal.invariant-loop-entry
invariant-loop-entry l = map entry_view l.entries.items ++ entries_left l.cursor ≡ entries_of l.text

abbrev pub decreases-loop-entry : goal.decreases-loop-entry
decreases-loop-entry l = length (entries_left l.cursor)
