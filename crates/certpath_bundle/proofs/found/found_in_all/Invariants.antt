use Rattle.std.proofs.Common.{◌≡◌, map, take}
use Rattle.certpath_bundle.specs.Bundles.{found_in}
use Rattle.certpath_bundle.specs.Views.{file_view, found_view}
use Rattle.certpath_bundle.proofs.found.found_in_all.Given as goal

abbrev pub invariant-loop-file : goal.invariant-loop-file
invariant-loop-file l = map found_view l.found.items ≡ map (λ file. found_in (file_view file)) (take l.file-index l.files)
