use Rattle.std.proofs.Common.{◌≡◌, map, subst, true}
use Rattle.cert_model.specs.View.{time_view}
use Rattle.cert_judge.specs.Items.{item_of, rules_by, rules_at}
use Rattle.cert_judge.specs.ItemGraph.{graph_of_items}
use Rattle.certpath_find.specs.Answered.{IsFound}
use Rattle.certpath_run.proofs.answering.answer_read.Goals as goal

pub returns : goal.returns
returns g c = λ judged anchors_judged.
    let V = g.V.Vouch.vouches_for c.args.vouch.now in
    let policy = c.args.settings.now.policy in
    let target = c.args.settings.now.target in
    let m = time_view policy.moment in
    let r = rules_by policy.moment policy.demand_lists V in
    let xs = map item_of c.args.read.now in
    let ys = map item_of c.args.read_anchors.now in
    let answer = c.in_ok-answer.answer in
    let found : IsFound (graph_of_items r xs ys) target answer = subst (λ d. IsFound (graph_of_items (rules_at m d V) xs ys) target answer) c.demands_lists.ensures (c.in_ok-answer.ensures m xs ys judged anchors_judged) in
    let said : c.in_ok-said.said ≡ true = c.in_ok-said.ensures.exact.1 found.adequate in
    (said, found)
