use Rattle.cert_graph.proofs.True.{adequate_is_true}
use Rattle.cert_judge.specs.LawsOfItems.{rules_from}
use Rattle.cert_judge.specs.ItemGraph.{graph_of_items}
use Rattle.cert_judge.proofs.laws.adequate_is_true.Goals as goal

pub returns : goal.returns
returns c = λ moment demand vouches items anchors target answer h. adequate_is_true (graph_of_items (rules_from moment demand vouches) items anchors) target answer h
