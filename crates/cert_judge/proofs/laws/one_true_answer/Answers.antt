use Rattle.cert_judge.specs.LawsOfItems.{rules_from}
use Rattle.cert_judge.proofs.Carrying.{one_answer}
use Rattle.cert_judge.proofs.laws.one_true_answer.Goals as goal

pub returns : goal.returns
returns c = λ moment demand vouches items anchors target answer another h k. one_answer (rules_from moment demand vouches) items anchors target answer another h k
