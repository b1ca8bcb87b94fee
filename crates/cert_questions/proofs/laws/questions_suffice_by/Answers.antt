use Rattle.cert_judge.specs.Items.{rules_at}
use Rattle.cert_questions.proofs.Agreeing.{say_the_same}
use Rattle.cert_questions.proofs.laws.questions_suffice_by.Goals as goal

pub returns : goal.returns
returns g c = λ moment demand items anchors a.
    say_the_same (rules_at moment demand (g.V.Vouch.vouches_for c.args._vouch.now)) (rules_at moment demand (g.W.Vouch.vouches_for c.args._other.now)) items anchors a
