use Rattle.cert_judge.specs.LawsOfItems.{rules_from}
use Rattle.cert_judge.proofs.Carrying.{items_keep_paths, same_items}
use Rattle.cert_judge.proofs.laws.vouching_for_more.Goals as goal

pub returns : goal.returns
returns c = λ moment demand vouches more items anchors m. items_keep_paths (λ v. v) (rules_from moment demand vouches) (rules_from moment demand more) items items anchors m (same_items items)
