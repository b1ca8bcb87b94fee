use Rattle.cert_judge.specs.LawsOfItems.{rules_from}
use Rattle.cert_model.specs.Octets.{name_octets, key_octets}
use Rattle.cert_judge.specs.ItemGraph.{KeyIdsAgree}
use Rattle.cert_reasons.proofs.OfLinks.{not_unlinked}
use Rattle.cert_reasons.proofs.laws.link_without_reasons_is_not_missing.Goals as goal

pub returns : goal.returns
returns c = λ m d v items x f g. not_unlinked (rules_from m d v) items x f (name_octets g.subject) (key_octets g.key) (KeyIdsAgree f g)
