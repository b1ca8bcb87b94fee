use Rattle.cert_graph.proofs.Sifted.{Sifted}
use Rattle.cert_reasons.specs.Listed.{IsInForceAt}
use Rattle.cert_reasons.proofs.listed.in_force_among.Given as goal

abbrev pub invariant-loop-place : goal.invariant-loop-place
invariant-loop-place l = Sifted 0 (IsInForceAt l.items l.moment l.name) l.places l.place-index l.found.items
