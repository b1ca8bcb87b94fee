use Rattle.cert_judge.specs.LawsOfItems.{rules_from}
use Rattle.cert_judge.proofs.Carrying.{items_keep_paths, same_rules}
use Rattle.cert_judge.proofs.laws.other_places.Goals as goal

pub returns : goal.returns
returns c = λ moment demand vouches items others anchors f k. let r = rules_from moment demand vouches in items_keep_paths f r r items others anchors (same_rules r items) k
