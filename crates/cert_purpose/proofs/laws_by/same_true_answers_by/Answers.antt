use Rattle.cert_judge.specs.Items.{rules_at}
use Rattle.cert_purpose.proofs.Alike.{alike_answers}
use Rattle.cert_purpose.proofs.laws_by.same_true_answers_by.Goals as goal

pub returns : goal.returns
returns g c = λ moment demand items. alike_answers (rules_at moment demand (g.V.Vouch.vouches_for c.args._vouch.now)) (rules_at moment demand (g.W.Vouch.vouches_for c.args._other.now)) items
