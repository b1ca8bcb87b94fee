use Rattle.std.proofs.Common.{◌≡◌, take}
use Rattle.cert_judge.specs.Copies.{places_at}
use Rattle.cert_judge.proofs.standing.places_at.Given as goal

abbrev pub invariant-loop-number : goal.invariant-loop-number
invariant-loop-number l = l.places.items ≡ places_at l.firsts (take l.number-index l.numbers)
