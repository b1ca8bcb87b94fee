use Rattle.cert_graph.proofs.Sifted.{Sifted}
use Rattle.cert_reasons.specs.Listed.{IsVouchedAt}
use Rattle.cert_reasons.proofs.listed.vouched_among.Given as goal

abbrev pub invariant-loop-place : goal.invariant-loop-place
invariant-loop-place g l = Sifted 0 (IsVouchedAt (g.V.Vouch.vouches_for l.vouch) l.items l.key) l.lists l.place-index l.found.items
