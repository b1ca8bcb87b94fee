use Rattle.cert_judge.specs.LawsOfItems.{rules_from}
use Rattle.cert_model.specs.Octets.{name_octets, key_octets}
use Rattle.cert_judge.specs.ItemGraph.{KeyIdsAgree}
use Rattle.cert_reasons.proofs.OfLinks.{no_reason}
use Rattle.cert_reasons.proofs.laws.link_has_no_reason.Goals as goal

pub returns : goal.returns
returns c = λ m d v items x f g. no_reason (rules_from m d v) items x f (name_octets g.subject) (key_octets g.key) (KeyIdsAgree f g)
