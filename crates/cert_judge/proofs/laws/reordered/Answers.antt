use Rattle.cert_judge.specs.LawsOfItems.{rules_from}
use Rattle.cert_judge.proofs.Carrying.{kept_both_ways}
use Rattle.cert_judge.proofs.laws.reordered.Goals as goal

pub returns : goal.returns
returns c = λ moment demand vouches items others anchors f g target there back same. kept_both_ways (rules_from moment demand vouches) items others anchors f g target there back same
