use Rattle.std.proofs.Common.{[], ◌∷◌, ◌++◌}
use Rattle.cert_judge.specs.Items.{rules_at}
use Rattle.cert_judge.proofs.Carrying.{items_keep_paths, same_rules, one_item_more}
use Rattle.cert_judge.proofs.laws_by.further_certificate_by.Goals as goal

pub returns : goal.returns
returns g c = λ moment demand items anchors x d is. let r = rules_at moment demand (g.V.Vouch.vouches_for c.args._vouch.now) in items_keep_paths (λ v. v) r r items (items ++ x ∷ []) anchors (same_rules r items) (one_item_more items x d is)
