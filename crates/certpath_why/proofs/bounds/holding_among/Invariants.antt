use Rattle.std.proofs.Common.{map}
use Rattle.cert_graph.proofs.Sifted.{Sifted}
use Rattle.cert_judge.specs.Items.{item_of, rules_by}
use Rattle.certpath_why.specs.Bounds.{reach_by}
use Rattle.certpath_why.specs.Held.{MayHoldBack}
use Rattle.certpath_why.proofs.bounds.holding_among.Given as goal

abbrev pub invariant-loop-issuer : goal.invariant-loop-issuer
invariant-loop-issuer g l = Sifted 0 (MayHoldBack (rules_by l.linking.policy.moment l.linking.policy.demand_lists (g.V.Vouch.vouches_for l.vouch)) (map item_of l.linking.items.now) (reach_by l.answer) l.linking.certificate.now) l.issuers l.issuer-index l.found.items
