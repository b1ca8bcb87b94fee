use Rattle.cert_graph.proofs.Sifted.{Sifted}
use Rattle.cert_reasons.specs.Listed.{HasSerialAt}
use Rattle.cert_reasons.proofs.listed.with_serial.Given as goal

abbrev pub invariant-loop-place : goal.invariant-loop-place
invariant-loop-place l = Sifted 0 (HasSerialAt l.items l.serial) l.lists l.place-index l.found.items
