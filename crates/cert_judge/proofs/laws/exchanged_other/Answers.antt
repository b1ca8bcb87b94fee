use Rattle.cert_judge.specs.LawsOfItems.{rules_from}
use Rattle.cert_judge.proofs.Carrying.{exchanged_true, exchanged_anchor_true}
use Rattle.cert_judge.proofs.laws.exchanged_other.Goals as goal

pub returns : goal.returns
returns c = record {
  bundle = λ moment demand vouches front back anchors x y target answer is_x is_y. exchanged_true (rules_from moment demand vouches) front back anchors x y is_x is_y target answer;
  anchors = λ moment demand vouches items front back x y target answer no_x no_y. exchanged_anchor_true (rules_from moment demand vouches) items front back x y no_x no_y target answer;
}
