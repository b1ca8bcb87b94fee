use Rattle.std.proofs.Common.{◌≡◌, map, take}
use Rattle.std.specs.List.{flat_map}
use Rattle.cert_model.specs.View.{ext_view}
use Rattle.certpath_c.specs.Tbs.{kept}
use Rattle.certpath_c.proofs.tbs.left_of.Given as goal

abbrev pub invariant-loop-extension : goal.invariant-loop-extension
invariant-loop-extension l = map ext_view l.left.items ≡ flat_map (λ e. kept l.identifier (ext_view e)) (take l.extension-index l.extensions)
