use Rattle.cert_reasons.proofs.OfLinks.{revoked_none, revoked_more, revoked_all}
use Rattle.cert_reasons.proofs.links.add_revoking.Goals as goal

pub loop-place-init : goal.loop-place-init
loop-place-init c = revoked_none c.args.findings.now c.args.found.now.items c.requires.before

pub loop-place-preserved : goal.loop-place-preserved
loop-place-preserved c = rw c.in_ok-push.ensures.items (revoked_more c.args.findings.now c.loop-place.place-index c.loop-place.found.items c.requires.ascends c.loop-place-test.true c.loop-place.invariant)

pub returns : goal.returns
returns c = revoked_all c.args.findings.now c.loop-place.place-index c.loop-place.found.items c.loop-place-test.false c.loop-place.invariant
