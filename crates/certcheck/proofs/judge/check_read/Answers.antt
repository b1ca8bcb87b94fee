use Rattle.std.proofs.Common.{map}
use Rattle.cert_graph.specs.Nodes.{graph_of}
use Rattle.cert_graph.proofs.Agreeing.{agreed_adequate, agreed_true}
use Rattle.cert_graph.proofs.NodeFacts.{fit_is_usable}
use Rattle.cert_judge.specs.Items.{item_of, rules_by}
use Rattle.cert_judge.specs.ItemGraph.{graph_of_items}
use Rattle.certcheck.proofs.judge.check_read.Goals as goal

pub returns : goal.returns
returns g c =
    let r = rules_by c.args.policy.now.moment c.args.policy.now.demand_lists (g.V.Vouch.vouches_for c.args.vouch.now) in
    let of_items = graph_of_items r (map item_of c.args.items.now) (map item_of c.args.anchors.now) in
    let nodes = c.in_ok-nodes.nodes in
    let agrees = c.in_ok-nodes.ensures in
    let adequate = agreed_adequate (graph_of nodes) of_items agrees (fit_is_usable nodes) c.args.target c.args.answer.now in
    let true_answer = agreed_true (graph_of nodes) of_items agrees (fit_is_usable nodes) c.args.target c.args.answer.now in
    record {
      exact = (λ t. adequate.0 (c.in_ok-yes.ensures.exact.0 t), λ h. c.in_ok-yes.ensures.exact.1 (adequate.1 h));
      holds = λ t. true_answer.0 (c.in_ok-yes.ensures.holds t);
    }
