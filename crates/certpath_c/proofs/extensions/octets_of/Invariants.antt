use Rattle.std.proofs.Common.{◌≡◌, take}
use Rattle.std.specs.List.{flat_map}
use Rattle.cert_model.specs.View.{ext_view}
use Rattle.certpath_c.specs.Extensions.{extension_octets}
use Rattle.certpath_c.proofs.extensions.octets_of.Given as goal

abbrev pub invariant-loop-extension : goal.invariant-loop-extension
invariant-loop-extension l = l.octets.items ≡ flat_map (λ e. extension_octets (ext_view e)) (take l.extension-index l.extensions)
