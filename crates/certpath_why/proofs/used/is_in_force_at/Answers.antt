use Rattle.cert_judge.specs.Items.{IsListWith}
use Rattle.certpath_why.specs.Used.{IsCurrentAndPlain}
use Rattle.cert_reasons.proofs.Marks.{there_at}
use Rattle.certpath_why.proofs.used.is_in_force_at.Goals as goal

pub returns-in-Some : goal.returns-in-Some
returns-in-Some c =
    let l = c.in-Some.ensures.lookup in
    let v = there_at c.args.items.now c.args.place c.in-Some.item.now l.3.0 l.1 (IsListWith (IsCurrentAndPlain c.args.moment.now)) in
    (λ t. v.0 (c.is_item_in_force.ensures.0 t), λ h. c.is_item_in_force.ensures.1 (v.1 h))
