use Rattle.cert_judge.specs.LawsOfItems.{rules_from}
use Rattle.cert_reasons.proofs.OfLists.{not_unused_among}
use Rattle.cert_reasons.proofs.laws.list_without_reasons_is_not_unused_by_all.Goals as goal

pub returns : goal.returns
returns c = λ m d v. not_unused_among (rules_from m d v)
