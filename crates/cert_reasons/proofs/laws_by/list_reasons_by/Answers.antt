use Rattle.cert_judge.specs.Items.{rules_at}
use Rattle.cert_reasons.proofs.OfLists.{no_reason, not_unused, no_reason_among, not_unused_among}
use Rattle.cert_reasons.proofs.laws_by.list_reasons_by.Goals as goal

pub returns-clause-used : goal.returns-clause-used
returns-clause-used g c = λ moment demand. no_reason (rules_at moment demand (g.V.Vouch.vouches_for c.args._vouch.now))

pub returns-clause-unused : goal.returns-clause-unused
returns-clause-unused g c = λ moment demand. not_unused (rules_at moment demand (g.V.Vouch.vouches_for c.args._vouch.now))

pub returns-clause-used_by_one : goal.returns-clause-used_by_one
returns-clause-used_by_one g c = λ moment demand. no_reason_among (rules_at moment demand (g.V.Vouch.vouches_for c.args._vouch.now))

pub returns-clause-unused_by_all : goal.returns-clause-unused_by_all
returns-clause-unused_by_all g c = λ moment demand. not_unused_among (rules_at moment demand (g.V.Vouch.vouches_for c.args._vouch.now))
