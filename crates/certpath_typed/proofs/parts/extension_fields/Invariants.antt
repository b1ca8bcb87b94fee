use Rattle.std.proofs.Common.{take, map}
use Rattle.cert_model.specs.View.{ext_view}
use Rattle.x509_links.specs.Readers.{extension_view}
use Rattle.certpath_typed.specs.Told.{TellsExtensions}
use Rattle.certpath_typed.proofs.parts.extension_fields.Given as goal

abbrev pub invariant-loop-extension : goal.invariant-loop-extension
invariant-loop-extension l = TellsExtensions l.item (map extension_view (take l.extension-index l.extensions)) (map ext_view l.fields.items)
