use Rattle.cert_judge.specs.Items.{rules_at}
use Rattle.cert_judge.proofs.Carrying.{kept_both_ways}
use Rattle.cert_judge.proofs.laws_by.reordered_by.Goals as goal

pub returns : goal.returns
returns g c = λ moment demand items others anchors f back_to target there back same. kept_both_ways (rules_at moment demand (g.V.Vouch.vouches_for c.args._vouch.now)) items others anchors f back_to target there back same
