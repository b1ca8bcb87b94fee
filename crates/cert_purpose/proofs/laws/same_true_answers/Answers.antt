use Rattle.cert_judge.specs.LawsOfItems.{rules_from}
use Rattle.cert_purpose.proofs.Alike.{alike_answers}
use Rattle.cert_purpose.proofs.laws.same_true_answers.Goals as goal

pub returns : goal.returns
returns c = λ moment demand vouches others items. alike_answers (rules_from moment demand vouches) (rules_from moment demand others) items
