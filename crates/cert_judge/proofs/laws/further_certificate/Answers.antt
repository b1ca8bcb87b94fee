use Rattle.std.proofs.Common.{[], ◌∷◌, ◌++◌}
use Rattle.cert_judge.specs.LawsOfItems.{rules_from}
use Rattle.cert_judge.proofs.Carrying.{items_keep_paths, same_rules, one_item_more}
use Rattle.cert_judge.proofs.laws.further_certificate.Goals as goal

pub returns : goal.returns
returns c = λ moment demand vouches items anchors x c is. let r = rules_from moment demand vouches in items_keep_paths (λ v. v) r r items (items ++ x ∷ []) anchors (same_rules r items) (one_item_more items x c is)
