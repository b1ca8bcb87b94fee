use Rattle.cert_reasons.proofs.OfLinks.{RevokedUpTo}
use Rattle.cert_reasons.proofs.links.add_revoking.Given as goal

abbrev pub invariant-loop-place : goal.invariant-loop-place
invariant-loop-place l = RevokedUpTo l.findings l.place-index l.found.items
