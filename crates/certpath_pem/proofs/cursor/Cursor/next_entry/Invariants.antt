use Rattle.std.proofs.Common.{◌≡◌, length}
use Rattle.certpath_pem.specs.Views.{entries_left}
use Rattle.certpath_pem.proofs.cursor.Cursor.next_entry.Given as goal

abbrev pub invariant-loop-entry : goal.invariant-loop-entry
invariant-loop-entry l = entries_left l.self ≡ entries_left l.fn.self

abbrev pub decreases-loop-entry : goal.decreases-loop-entry
decreases-loop-entry l = length l.self.rest.now
