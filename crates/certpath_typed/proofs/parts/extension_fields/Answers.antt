use Rattle.std.proofs.Common.{◌∙◌, sym, ap, take, [], ◌∷◌, ◌++◌}
use Rattle.std.proofs.lemmas.Grind.{take_at_read}
use Rattle.cert_model.specs.View.{ext_view}
use Rattle.x509_links.specs.Readers.{extension_view}
use Rattle.certpath_typed.specs.Told.{TellsExtension}
use Rattle.certpath_typed.proofs.Zipped.{zip_push, shown}
use Rattle.certpath_typed.proofs.parts.extension_fields.Goals as goal

pub loop-extension-preserved : goal.loop-extension-preserved
loop-extension-preserved c =
    let xs = c.args.extensions.now in
    let i = c.loop-extension.extension-index in
    let x = c.extension-item.result in
    let longer = (take_at_read xs i x c.loop-extension-test.true).1 ∙ ap (λ z. take i xs ++ z ∷ []) (sym c.extension-item.is) in
    zip_push (TellsExtension c.args.item.now) _ _ _ _ _ _ (shown extension_view _ _ _ longer) (shown ext_view _ _ _ c.in_ok-push.ensures.items) c.loop-extension.invariant c.extension_field.ensures
