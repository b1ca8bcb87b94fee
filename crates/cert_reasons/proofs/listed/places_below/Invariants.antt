use Rattle.cert_judge.proofs.NamedFacts.{AreBelow}
use Rattle.cert_reasons.proofs.listed.places_below.Given as goal

abbrev pub invariant-loop-place : goal.invariant-loop-place
invariant-loop-place l = AreBelow l.place l.places.items
