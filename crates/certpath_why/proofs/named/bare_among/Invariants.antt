use Rattle.cert_graph.proofs.Sifted.{Sifted}
use Rattle.certpath_why.specs.Named.{HasId}
use Rattle.certpath_why.proofs.named.bare_among.Given as goal

abbrev pub invariant-loop-place : goal.invariant-loop-place
invariant-loop-place l = Sifted 0 (λ w. HasId l.items w → ⊥) l.places l.place-index l.found.items
