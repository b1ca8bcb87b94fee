use Rattle.cert_judge.specs.Items.{rules_at}
use Rattle.cert_judge.proofs.Carrying.{one_inventory_of}
use Rattle.cert_judge.proofs.laws_by.one_true_inventory_by.Goals as goal

pub returns : goal.returns
returns g c = λ moment demand items anchors inventory another h k. one_inventory_of (rules_at moment demand (g.V.Vouch.vouches_for c.args._vouch.now)) items anchors inventory another h k
