use Rattle.cert_judge.specs.Items.{rules_at}
use Rattle.cert_judge.proofs.Carrying.{one_answer}
use Rattle.cert_judge.proofs.laws_by.one_true_answer_by.Goals as goal

pub returns : goal.returns
returns g c = λ moment demand items anchors target answer another h k. one_answer (rules_at moment demand (g.V.Vouch.vouches_for c.args._vouch.now)) items anchors target answer another h k
