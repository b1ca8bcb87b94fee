-- What the check says holds by the rules of the settings.
use Rattle.cert_graph.proofs.Sharing.{inventory_true}
use Rattle.cert_judge.specs.ItemGraph.{graph_of_items}
use Rattle.cert_judge.specs.Items.{rules_by}
use Rattle.certpath_recheck.proofs.saying.said_by.Goals as goal

pub returns : goal.returns
returns g c =
    let settings = c.args.settings.now in
    let r = rules_by settings.policy.moment settings.policy.demand_lists (g.V.Vouch.vouches_for c.args.vouch.now) in
    let exact = c.in_ok-said.ensures.exact in record {
      classed = exact.0;
      classed_anchors = exact.1;
      are_classed = exact.2;
      anchors_are_classed = exact.3;
      exact = exact.4;
      holds = λ yes. inventory_true (graph_of_items r exact.0 exact.1) c.args.inventory.now (exact.4.0 yes);
    }
