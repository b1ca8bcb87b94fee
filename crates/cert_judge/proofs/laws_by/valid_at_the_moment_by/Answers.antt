use Rattle.cert_judge.specs.Items.{rules_at}
use Rattle.cert_judge.proofs.Carrying.{path_is_valid}
use Rattle.cert_judge.proofs.laws_by.valid_at_the_moment_by.Goals as goal

pub returns : goal.returns
returns g c = λ moment demand items anchors. path_is_valid (rules_at moment demand (g.V.Vouch.vouches_for c.args._vouch.now)) items anchors
