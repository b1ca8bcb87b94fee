use Rattle.std.proofs.Common.{take}
use Rattle.cert_serving.specs.Refusing.{HasRefused}
use Rattle.cert_serving.specs.View.{demands_view}
use Rattle.cert_serving.proofs.permits.refused_of.Given as goal

abbrev pub invariant-loop-place : goal.invariant-loop-place
invariant-loop-place l = HasRefused (demands_view l.demands) (take l.place l.items.items) l.refused
