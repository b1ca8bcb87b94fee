use Rattle.cert_model.specs.Octets.{name_octets, key_octets}
use Rattle.cert_judge.specs.ItemGraph.{KeyIdsAgree}
use Rattle.cert_judge.specs.Items.{rules_at}
use Rattle.cert_reasons.proofs.OfLinks.{no_reason, not_unlinked}
use Rattle.cert_reasons.proofs.laws_by.link_reasons_by.Goals as goal

pub returns-clause-item : goal.returns-clause-item
returns-clause-item g c = λ moment demand items x e d. no_reason (rules_at moment demand (g.V.Vouch.vouches_for c.args._vouch.now)) items x e (name_octets d.subject) (key_octets d.key) (KeyIdsAgree e d)

pub returns-clause-no_item : goal.returns-clause-no_item
returns-clause-no_item g c = λ moment demand items x e d. not_unlinked (rules_at moment demand (g.V.Vouch.vouches_for c.args._vouch.now)) items x e (name_octets d.subject) (key_octets d.key) (KeyIdsAgree e d)

pub returns-clause-anchor : goal.returns-clause-anchor
returns-clause-anchor g c = λ moment demand items x e d reason issued. no_reason (rules_at moment demand (g.V.Vouch.vouches_for c.args._vouch.now)) items x e (name_octets d.subject) (key_octets d.key) (Unit {0}) reason issued tt

pub returns-clause-no_anchor : goal.returns-clause-no_anchor
returns-clause-no_anchor g c = λ moment demand items x e d named none refuted. not_unlinked (rules_at moment demand (g.V.Vouch.vouches_for c.args._vouch.now)) items x e (name_octets d.subject) (key_octets d.key) (Unit {0}) named none (λ i u. refuted i)
