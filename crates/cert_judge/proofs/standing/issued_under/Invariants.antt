use Rattle.std.proofs.Common.{[], get_or}
use Rattle.cert_graph.proofs.Sifted.{Sifted}
use Rattle.cert_judge.specs.Standing.{anything, IsIssuedBeside}
use Rattle.cert_judge.proofs.standing.issued_under.Given as goal

abbrev pub invariant-loop-number : goal.invariant-loop-number
invariant-loop-number l = Sifted 0 (λ d. IsIssuedBeside anything l.standing.revoked l.items [] (get_or l.firsts d 0)) l.numbers l.number-index l.found.items
