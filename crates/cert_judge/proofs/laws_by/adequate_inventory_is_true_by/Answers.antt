use Rattle.cert_graph.proofs.Sharing.{inventory_true}
use Rattle.cert_judge.specs.Items.{rules_at}
use Rattle.cert_judge.specs.ItemGraph.{graph_of_items}
use Rattle.cert_judge.proofs.laws_by.adequate_inventory_is_true_by.Goals as goal

pub returns : goal.returns
returns g c = λ moment demand items anchors inventory h. inventory_true (graph_of_items (rules_at moment demand (g.V.Vouch.vouches_for c.args._vouch.now)) items anchors) inventory h
