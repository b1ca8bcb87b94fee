use Rattle.std.proofs.Common.{subst, sym}
use Rattle.cert_graph.specs.Laws.{Agrees}
use Rattle.cert_graph.specs.Nodes.{graph_of}
use Rattle.cert_graph.proofs.Agreeing.{agreed_adequate, agreed_true}
use Rattle.cert_graph.proofs.NodeFacts.{fit_is_usable}
use Rattle.cert_model.specs.View.{time_view}
use Rattle.cert_judge.specs.Items.{rules_by, rules_at}
use Rattle.cert_judge.specs.ItemGraph.{graph_of_items}
use Rattle.cert_judge.specs.JudgedItems.{AreJudged}
use Rattle.certcheck.proofs.judge.check.Goals as goal

pub returns : goal.returns
returns g c =
    let V = g.V.Vouch.vouches_for c.args.vouch.now in
    let m = time_view c.args.policy.now.moment in
    let r = rules_by c.args.policy.now.moment c.args.policy.now.demand_lists V in
    let items = c.in_ok-items.ensures in
    let anchors = c.in_ok-anchors.ensures in
    let xs = items.0 in
    let ys = anchors.0 in
    let nodes = c.in_ok-nodes.nodes in
    let a = subst (λ t. AreJudged (time_view t) xs c.deref.result.now) c.moment-moment.ensures (subst (AreJudged (time_view c.moment-moment.result) xs) (sym c.deref.ensures.value) items.2) in
    let b = subst (λ t. AreJudged (time_view t) ys c.deref-2.result.now) c.moment-moment.ensures (subst (AreJudged (time_view c.moment-moment.result) ys) (sym c.deref-2.ensures.value) anchors.2) in
    let agrees : Agrees (graph_of nodes) (graph_of_items r xs ys) = subst (λ d. Agrees (graph_of nodes) (graph_of_items (rules_at m d V) xs ys)) c.demands_lists.ensures (c.in_ok-nodes.ensures m xs ys a b) in
    let adequate = agreed_adequate (graph_of nodes) (graph_of_items r xs ys) agrees (fit_is_usable nodes) c.args.target c.args.answer.now in
    let true_answer = agreed_true (graph_of nodes) (graph_of_items r xs ys) agrees (fit_is_usable nodes) c.args.target c.args.answer.now in
    record {
      exact = (xs, ys, items.1, anchors.1, (λ t. adequate.0 (c.in_ok-yes.ensures.exact.0 t), λ h. c.in_ok-yes.ensures.exact.1 (adequate.1 h)));
      holds = (xs, ys, items.1, anchors.1, λ t. true_answer.0 (c.in_ok-yes.ensures.holds t));
    }
