use Rattle.cert_judge.specs.Items.{rules_at}
use Rattle.cert_judge.proofs.Carrying.{items_keep_paths, same_rules}
use Rattle.cert_judge.proofs.laws_by.other_places_by.Goals as goal

pub returns : goal.returns
returns g c = λ moment demand items others anchors f k. let r = rules_at moment demand (g.V.Vouch.vouches_for c.args._vouch.now) in items_keep_paths f r r items others anchors (same_rules r items) k
