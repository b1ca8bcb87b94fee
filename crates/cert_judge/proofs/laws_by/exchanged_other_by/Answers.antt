use Rattle.cert_judge.specs.Items.{rules_at}
use Rattle.cert_judge.proofs.Carrying.{exchanged_true, exchanged_anchor_true}
use Rattle.cert_judge.proofs.laws_by.exchanged_other_by.Goals as goal

pub returns : goal.returns
returns g c = record {
  bundle = λ moment demand front back anchors x y target answer is_x is_y. exchanged_true (rules_at moment demand (g.V.Vouch.vouches_for c.args._vouch.now)) front back anchors x y is_x is_y target answer;
  anchors = λ moment demand items front back x y target answer no_x no_y. exchanged_anchor_true (rules_at moment demand (g.V.Vouch.vouches_for c.args._vouch.now)) items front back x y no_x no_y target answer;
}
