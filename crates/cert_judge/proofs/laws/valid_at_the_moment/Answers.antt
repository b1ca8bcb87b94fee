use Rattle.cert_judge.specs.LawsOfItems.{rules_from}
use Rattle.cert_judge.proofs.Carrying.{path_is_valid}
use Rattle.cert_judge.proofs.laws.valid_at_the_moment.Goals as goal

pub returns : goal.returns
returns c = λ moment demand vouches items anchors. path_is_valid (rules_from moment demand vouches) items anchors
