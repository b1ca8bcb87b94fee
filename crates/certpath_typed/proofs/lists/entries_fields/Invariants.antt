use Rattle.std.proofs.Common.{take, map}
use Rattle.std.specs.List.{AllZip}
use Rattle.cert_model.specs.View.{entry_view}
use Rattle.certpath_typed.specs.ToldItems.{TellsEntry}
use Rattle.certpath_typed.proofs.lists.entries_fields.Given as goal

abbrev pub invariant-loop-entry : goal.invariant-loop-entry
invariant-loop-entry l = AllZip (TellsEntry l.item) (take l.entry-index l.entries) (map entry_view l.fields.items)
