use Rattle.cert_judge.specs.LawsOfItems.{rules_from}
use Rattle.cert_reasons.proofs.OfLists.{no_reason_among}
use Rattle.cert_reasons.proofs.laws.list_used_by_one_has_no_reason.Goals as goal

pub returns : goal.returns
returns c = λ m d v. no_reason_among (rules_from m d v)
