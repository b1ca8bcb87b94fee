use Rattle.std.proofs.Common.{◌≡◌, map, drop}
use Rattle.cert_model.specs.View.{entry_view}
use Rattle.cert_model.specs.Assembly.{entries_fit}
use Rattle.certcheck.proofs.list.entries_fit.Given as goal

-- What the entries left are is what all entries are.
abbrev pub invariant-loop-entry : goal.invariant-loop-entry
invariant-loop-entry l = entries_fit l.version (map entry_view (drop l.entry-index l.entries)) ≡ entries_fit l.version (map entry_view l.entries)
