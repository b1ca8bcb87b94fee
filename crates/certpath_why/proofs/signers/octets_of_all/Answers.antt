use Rattle.certpath_why.proofs.Signed.{octets_more, octets_all}
use Rattle.certpath_why.proofs.signers.octets_of_all.Goals as goal

pub loop-item-preserved : goal.loop-item-preserved
loop-item-preserved c = rw c.in_ok-push.ensures.items (octets_more c.args.items.now c.loop-item.item-index c.item-item.result c.loop-item.octets.items c.octets_of.result c.loop-item-test.true c.item-item.is c.octets_of.ensures c.loop-item.invariant)

pub returns : goal.returns
returns c = octets_all c.args.items.now c.loop-item.item-index c.loop-item.octets.items c.loop-item-test.false c.loop-item.invariant
