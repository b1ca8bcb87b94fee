use Rattle.cert_graph.proofs.True.{adequate_is_true}
use Rattle.cert_judge.specs.Items.{rules_at}
use Rattle.cert_judge.specs.ItemGraph.{graph_of_items}
use Rattle.cert_judge.proofs.laws_by.adequate_is_true_by.Goals as goal

pub returns : goal.returns
returns g c = λ moment demand items anchors target answer h. adequate_is_true (graph_of_items (rules_at moment demand (g.V.Vouch.vouches_for c.args._vouch.now)) items anchors) target answer h
