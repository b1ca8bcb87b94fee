use Rattle.cert_search.proofs.Placing.{AnchoredBelow}
use Rattle.cert_search.proofs.places.anchored_of.Given as goal

abbrev pub invariant-loop-place : goal.invariant-loop-place
invariant-loop-place l = AnchoredBelow l.nodes l.place l.anchored.items
