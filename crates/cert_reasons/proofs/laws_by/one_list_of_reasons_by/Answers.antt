use Rattle.cert_model.specs.Octets.{name_octets, key_octets}
use Rattle.cert_judge.specs.ItemGraph.{KeyIdsAgree}
use Rattle.cert_judge.specs.Items.{rules_at}
use Rattle.cert_reasons.specs.Lists.{HasListReason, HasReasonAmong, list_order}
use Rattle.cert_reasons.specs.Links.{HasLinkReason, link_order}
use Rattle.cert_reasons.proofs.Ordered.{one_list}
use Rattle.cert_reasons.proofs.laws_by.one_list_of_reasons_by.Goals as goal

pub returns-clause-list : goal.returns-clause-list
returns-clause-list g c = λ moment demand key item l. one_list list_order (HasListReason (rules_at moment demand (g.V.Vouch.vouches_for c.args._vouch.now)) key item l)

pub returns-clause-among : goal.returns-clause-among
returns-clause-among g c = λ moment demand keys item l. one_list list_order (HasReasonAmong (rules_at moment demand (g.V.Vouch.vouches_for c.args._vouch.now)) keys item l)

pub returns-clause-item : goal.returns-clause-item
returns-clause-item g c = λ moment demand items x e d. one_list link_order (HasLinkReason (rules_at moment demand (g.V.Vouch.vouches_for c.args._vouch.now)) items x e (name_octets d.subject) (key_octets d.key) (KeyIdsAgree e d))

pub returns-clause-anchor : goal.returns-clause-anchor
returns-clause-anchor g c = λ moment demand items x e d. one_list link_order (HasLinkReason (rules_at moment demand (g.V.Vouch.vouches_for c.args._vouch.now)) items x e (name_octets d.subject) (key_octets d.key) (Unit {0}))
