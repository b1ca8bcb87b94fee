use Rattle.std.proofs.Common.{map, take}
use Rattle.cert_model.specs.Extended.{under_ce}
use Rattle.cert_model.specs.View.{ext_view}
use Rattle.cert_purpose.specs.Found.{Tells}
use Rattle.cert_purpose.proofs.extension.value_under.Given as goal

abbrev pub invariant-loop-extension : goal.invariant-loop-extension
invariant-loop-extension l = Tells (under_ce l.n) (map ext_view (take l.extension-index l.extensions)) l.value
