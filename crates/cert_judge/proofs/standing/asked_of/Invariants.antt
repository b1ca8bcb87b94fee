use Rattle.cert_judge.proofs.SerialFacts.{AskedBefore}
use Rattle.cert_judge.proofs.standing.asked_of.Given as goal

abbrev pub invariant-loop-place : goal.invariant-loop-place
invariant-loop-place l = AskedBefore l.items l.places l.place-index l.asked.items
