use Rattle.cert_questions.proofs.FirstPlaces.{FirstsSoFar}
use Rattle.cert_questions.proofs.firsts.firsts_of.Given as goal

abbrev pub invariant-loop-place : goal.invariant-loop-place
invariant-loop-place l = FirstsSoFar l.all l.places l.place-index l.seen l.firsts.items
