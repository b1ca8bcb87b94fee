use Rattle.cert_graph.specs.Laws.{Agrees}
use Rattle.cert_graph.specs.Nodes.{graph_of}
use Rattle.cert_graph.proofs.Agreeing.{agreed_adequate, agreed_true}
use Rattle.cert_graph.proofs.NodeFacts.{fit_is_usable}
use Rattle.cert_search.proofs.Carried.{exact_rows_same, short_same}
use Rattle.cert_judge.specs.Items.{rules_at}
use Rattle.cert_judge.specs.ItemGraph.{graph_of_items}
use Rattle.certpath_find.proofs.finding.find_judged.Goals as goal

pub returns : goal.returns
returns g c = λ moment xs ys a b.
    let nodes = c.in_ok-nodes.nodes in
    let answer = c.in_ok-answer.answer in
    let found = c.in_ok-answer.ensures in
    let graph = graph_of_items (rules_at moment c.args.demand_lists (g.V.Vouch.vouches_for c.args.vouch.now)) xs ys in
    let agrees : Agrees (graph_of nodes) graph = c.in_ok-nodes.ensures moment xs ys a b in
    record {
      adequate = (agreed_adequate (graph_of nodes) graph agrees (fit_is_usable nodes) c.args.target answer).0 found.adequate;
      holds = (agreed_true (graph_of nodes) graph agrees (fit_is_usable nodes) c.args.target answer).0 found.holds;
      exact = exact_rows_same (graph_of nodes) graph agrees answer found.exact;
      short = short_same (graph_of nodes) graph agrees answer found.short;
    }
