use Rattle.std.proofs.Common.{◌↔◌, map, drop}
use Rattle.std.specs.List.{AllByRecursion}
use Rattle.cert_model.specs.Range.{IsEntry}
use Rattle.cert_model.specs.View.{entry_view}
use Rattle.cert_model.proofs.range.are_entries.Given as goal

-- what is left decides
abbrev pub invariant-loop-entry : goal.invariant-loop-entry
invariant-loop-entry l = AllByRecursion (IsEntry l.version) (map entry_view (drop l.entry-index l.entries)) ↔ AllByRecursion (IsEntry l.version) (map entry_view l.entries)
