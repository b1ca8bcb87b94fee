use Rattle.std.proofs.Common.{[]}
use Rattle.cert_judge.specs.Standing.{anything}
use Rattle.cert_judge.proofs.StandingFacts.{IsStanding}
use Rattle.cert_judge.proofs.standing.standing_of.Given as goal

abbrev pub invariant-loop-place : goal.invariant-loop-place
invariant-loop-place l = IsStanding anything l.items [] l.places l.asked l.place-index l.standing.listed l.standing.revoked
