use Rattle.cert_judge.specs.LawsOfItems.{rules_from}
use Rattle.cert_questions.proofs.Agreeing.{say_the_same}
use Rattle.cert_questions.proofs.laws.questions_suffice.Goals as goal

pub returns : goal.returns
returns c = λ moment demand vouches others items anchors a. say_the_same (rules_from moment demand vouches) (rules_from moment demand others) items anchors a
