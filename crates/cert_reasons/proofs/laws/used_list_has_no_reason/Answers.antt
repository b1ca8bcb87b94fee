use Rattle.cert_judge.specs.LawsOfItems.{rules_from}
use Rattle.cert_reasons.proofs.OfLists.{no_reason}
use Rattle.cert_reasons.proofs.laws.used_list_has_no_reason.Goals as goal

pub returns : goal.returns
returns c = λ m d v. no_reason (rules_from m d v)
