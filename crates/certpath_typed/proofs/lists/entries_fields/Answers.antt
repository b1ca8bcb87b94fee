use Rattle.std.proofs.Common.{◌∙◌, sym, ap, take, [], ◌∷◌, ◌++◌}
use Rattle.std.proofs.lemmas.Grind.{take_at_read}
use Rattle.cert_model.specs.View.{entry_view}
use Rattle.certpath_typed.specs.ToldItems.{TellsEntry}
use Rattle.certpath_typed.proofs.Zipped.{zip_push, shown}
use Rattle.certpath_typed.proofs.lists.entries_fields.Goals as goal

pub loop-entry-preserved : goal.loop-entry-preserved
loop-entry-preserved c =
    let xs = c.args.entries.now in
    let i = c.loop-entry.entry-index in
    let x = c.entry-item.result in
    let longer = (take_at_read xs i x c.loop-entry-test.true).1 ∙ ap (λ z. take i xs ++ z ∷ []) (sym c.entry-item.is) in
    zip_push (TellsEntry c.args.item.now) _ _ _ _ _ _ longer (shown entry_view _ _ _ c.in_ok-push.ensures.items) c.loop-entry.invariant c.in_ok-entry_fields.ensures
