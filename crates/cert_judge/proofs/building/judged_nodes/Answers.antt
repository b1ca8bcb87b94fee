use Rattle.std.proofs.Common.{◌≡◌, length, arith, subst}
use Rattle.cert_judge.specs.JudgedItems.{IsNodeFor, AreNodesFor}
use Rattle.cert_judge.proofs.Agreement.{nodes_more, at_default}
use Rattle.cert_judge.proofs.building.judged_nodes.Goals as goal

pub loop-item-preserved : goal.loop-item-preserved
loop-item-preserved g c =
    let Q = (g.V.Vouch.vouches_for c.args.vouch.now).Processes in
    let js = c.args.items.now in
    let k = c.loop-item.item-index in
    rw c.in_ok-push.ensures.items
    (nodes_more Q js c.loop-item.nodes.items k c.node_by.result c.loop-item.invariant (λ j. subst (λ z. IsNodeFor Q z c.node_by.result) (at_default js k c.item-item.result j c.item-item.is c.loop-item-test.true) c.node_by.ensures))

pub returns : goal.returns
returns g c =
    let end : c.loop-item.item-index ≡ length c.args.items.now = omega arith in
    subst (AreNodesFor (g.V.Vouch.vouches_for c.args.vouch.now).Processes c.args.items.now c.loop-item.nodes.items) end c.loop-item.invariant
