use Rattle.std.proofs.Common.{◌<◌}
use Rattle.cert_graph.proofs.Sifted.{Sifted}
use Rattle.cert_graph.proofs.sifting.between.Given as goal

abbrev pub invariant-loop-place : goal.invariant-loop-place
invariant-loop-place l = Sifted l.first (λ v. v < l.count) l.chosen l.place-index l.found.items
