use Rattle.std.specs.Prelude.{IsTrue}
use Rattle.cert_judge.specs.ItemGraph.{KeyIdsAgree}
use Rattle.cert_judge.specs.LawsOfItems.{rules_from}
use Rattle.cert_model.specs.Octets.{name_octets, key_octets}
use Rattle.cert_reasons.specs.Certificates.{HasReason, order_of}
use Rattle.cert_reasons.specs.Issuers.{HasIssuerReason, issuer_order}
use Rattle.cert_reasons.specs.Lists.{HasReasonAmong, list_order}
use Rattle.cert_reasons.specs.Links.{HasLinkReason, link_order}
use Rattle.cert_reasons.proofs.Ordered.{one_list}
use Rattle.cert_reasons.proofs.laws.one_list_of_reasons.Goals as goal

pub returns-clause-certificates : goal.returns-clause-certificates
returns-clause-certificates c = λ processes moment f. one_list order_of (HasReason (λ id. IsTrue (processes id)) moment f)

pub returns-clause-issuers : goal.returns-clause-issuers
returns-clause-issuers c = λ f. one_list issuer_order (HasIssuerReason f)

pub returns-clause-lists : goal.returns-clause-lists
returns-clause-lists c = λ m d v keys item l. one_list list_order (HasReasonAmong (rules_from m d v) keys item l)

pub returns-clause-links : goal.returns-clause-links
returns-clause-links c = λ m d v items x f g. one_list link_order (HasLinkReason (rules_from m d v) items x f (name_octets g.subject) (key_octets g.key) (KeyIdsAgree f g))
