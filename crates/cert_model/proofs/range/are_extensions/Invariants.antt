use Rattle.std.proofs.Common.{◌↔◌, map, drop}
use Rattle.std.specs.List.{AllByRecursion}
use Rattle.cert_model.specs.Range.{IsExtension}
use Rattle.cert_model.specs.View.{ext_view}
use Rattle.cert_model.proofs.range.are_extensions.Given as goal

-- what is left decides
abbrev pub invariant-loop-extension : goal.invariant-loop-extension
invariant-loop-extension l = AllByRecursion IsExtension (map ext_view (drop l.extension-index l.extensions)) ↔ AllByRecursion IsExtension (map ext_view l.extensions)
