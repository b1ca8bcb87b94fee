use Rattle.std.proofs.Common.{length, sym}
use Rattle.cert_judge.proofs.Agreement.{all_within, built_agrees}
use Rattle.cert_judge.proofs.building.nodes_by.Goals as goal

pub invariant_of-result : goal.invariant_of-result
invariant_of-result g c =
    let all = all_within (length c.args.items.now) (length c.in_ok-nodes.nodes.items) c.in_ok-groups.groups.items _ _ (sym c.in_ok-nodes.ensures.count) c.in_ok-groups.ensures in
    record { members_within = λ k d lt. (all k d lt).members; issued_within = λ k d lt. (all k d lt).issued }

pub returns : goal.returns
returns g c = λ moment xs ys judged anchored.
    built_agrees moment c.args.demand_lists (g.V.Vouch.vouches_for c.args.vouch.now) xs ys c.args.items.now c.args.anchors.now judged anchored _ c.in_ok-nodes.ensures c.in_ok-groups.ensures
