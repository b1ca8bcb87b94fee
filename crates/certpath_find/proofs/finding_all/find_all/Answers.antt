use Rattle.std.proofs.Common.{subst, sym}
use Rattle.cert_model.specs.View.{time_view}
use Rattle.cert_judge.specs.Items.{rules_by, rules_at}
use Rattle.cert_judge.specs.ItemGraph.{graph_of_items}
use Rattle.cert_judge.specs.JudgedItems.{AreJudged}
use Rattle.certpath_find.specs.AnsweredAll.{IsFoundOfAll}
use Rattle.certpath_find.proofs.AnsweringAll.{all_name_certificates}
use Rattle.certpath_find.proofs.finding_all.find_all.Goals as goal

pub returns : goal.returns
returns g c =
    let V = g.V.Vouch.vouches_for c.args.vouch.now in
    let m = time_view c.args.policy.now.moment in
    let r = rules_by c.args.policy.now.moment c.args.policy.now.demand_lists V in
    let items = c.in_ok-items.ensures in
    let anchors = c.in_ok-anchors.ensures in
    let xs = items.0 in
    let ys = anchors.0 in
    let inventory = c.in_ok-inventory.inventory in
    let a = subst (λ t. AreJudged (time_view t) xs c.deref.result.now) c.moment-moment.ensures (subst (AreJudged (time_view c.moment-moment.result) xs) (sym c.deref.ensures.value) items.2) in
    let b = subst (λ t. AreJudged (time_view t) ys c.deref-2.result.now) c.moment-moment.ensures (subst (AreJudged (time_view c.moment-moment.result) ys) (sym c.deref-2.ensures.value) anchors.2) in
    let found : IsFoundOfAll (graph_of_items r xs ys) inventory = subst (λ d. IsFoundOfAll (graph_of_items (rules_at m d V) xs ys) inventory) c.demands_lists.ensures (c.in_ok-inventory.ensures m xs ys a b) in
    record {
      adequate = (xs, ys, items.1, anchors.1, found.adequate);
      holds = (xs, ys, items.1, anchors.1, found.holds);
      exact = (xs, ys, items.1, anchors.1, found.exact);
      short = (xs, ys, items.1, anchors.1, found.short);
      bounded = (xs, ys, items.1, anchors.1, found.bounded);
      spelled = all_name_certificates r c.args.items.now.items xs ys inventory items.1 found.holds;
    }
