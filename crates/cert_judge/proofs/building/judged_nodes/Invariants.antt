use Rattle.cert_judge.specs.JudgedItems.{AreNodesFor}
use Rattle.cert_judge.proofs.building.judged_nodes.Given as goal

abbrev pub invariant-loop-item : goal.invariant-loop-item
invariant-loop-item g l = AreNodesFor (g.V.Vouch.vouches_for l.vouch).Processes l.items l.nodes.items l.item-index
