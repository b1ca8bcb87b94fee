use Rattle.cert_judge.specs.Items.{rules_at}
use Rattle.cert_judge.proofs.Carrying.{items_keep_paths, same_items}
use Rattle.cert_judge.proofs.laws_by.vouching_for_more_by.Goals as goal

pub returns : goal.returns
returns g c = λ moment demand items anchors m. items_keep_paths (λ v. v) (rules_at moment demand (g.V.Vouch.vouches_for c.args._vouch.now)) (rules_at moment demand (g.W.Vouch.vouches_for c.args._more.now)) items items anchors m (same_items items)
