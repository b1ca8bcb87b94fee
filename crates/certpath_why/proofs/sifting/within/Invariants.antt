use Rattle.cert_graph.proofs.Sifted.{Sifted}
use Rattle.certpath_why.specs.Ranges.{IsInRanges}
use Rattle.certpath_why.proofs.sifting.within.Given as goal

abbrev pub invariant-loop-place : goal.invariant-loop-place
invariant-loop-place l = Sifted 0 (λ w. IsInRanges l.ranges w) l.places l.place-index l.found.items
