use Rattle.cert_graph.specs.Laws.{Agrees}
use Rattle.cert_graph.specs.Nodes.{graph_of}
use Rattle.cert_graph.proofs.NodeFacts.{fit_is_usable}
use Rattle.cert_judge.specs.Items.{rules_at}
use Rattle.cert_judge.specs.ItemGraph.{graph_of_items}
use Rattle.certpath_find.proofs.AnsweringAll.{found_of_all}
use Rattle.certpath_find.proofs.finding_all.find_all_judged.Goals as goal

pub returns : goal.returns
returns g c = λ moment xs ys a b.
    let nodes = c.in_ok-nodes.nodes in
    let found = c.in_ok-inventory.ensures in
    let graph = graph_of_items (rules_at moment c.args.demand_lists (g.V.Vouch.vouches_for c.args.vouch.now)) xs ys in
    let agrees : Agrees (graph_of nodes) graph = c.in_ok-nodes.ensures moment xs ys a b in
    found_of_all (graph_of nodes) graph agrees (fit_is_usable nodes) c.in_ok-inventory.inventory found.adequate found.exact found.short found.bounded
