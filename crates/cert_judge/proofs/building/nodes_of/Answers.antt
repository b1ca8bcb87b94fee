use Rattle.std.proofs.Common.{map, sym, subst}
use Rattle.cert_graph.specs.Laws.{Agrees}
use Rattle.cert_graph.specs.Nodes.{graph_of}
use Rattle.cert_model.specs.View.{time_view}
use Rattle.cert_judge.specs.Items.{item_of, rules_at}
use Rattle.cert_judge.specs.ItemGraph.{graph_of_items}
use Rattle.cert_judge.specs.JudgedItems.{AreJudged}
use Rattle.cert_judge.proofs.building.nodes_of.Goals as goal

pub returns : goal.returns
returns g c =
    let V = g.V.Vouch.vouches_for c.args.vouch.now in
    let m = time_view c.args.policy.now.moment in
    let xs = map item_of c.args.items.now in
    let ys = map item_of c.args.anchors.now in
    let items = subst (λ t. AreJudged (time_view t) xs c.deref.result.now) c.moment-moment.ensures (subst (AreJudged (time_view c.moment-moment.result) xs) (sym c.deref.ensures.value) c.in_ok-items.ensures) in
    let anchors = subst (λ t. AreJudged (time_view t) ys c.deref-2.result.now) c.moment-moment.ensures (subst (AreJudged (time_view c.moment-moment.result) ys) (sym c.deref-2.ensures.value) c.in_ok-anchors.ensures) in
    subst (λ d. Agrees (graph_of c.in_ok-nodes.nodes) (graph_of_items (rules_at m d V) xs ys)) c.demands_lists.ensures (c.in_ok-nodes.ensures m xs ys items anchors)
