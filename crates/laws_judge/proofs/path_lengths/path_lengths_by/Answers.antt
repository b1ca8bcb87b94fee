use Rattle.cert_judge.specs.Items.{rules_at}
use Rattle.laws_judge.proofs.OfPathLengths.{fit_has, one_length, own_limit}
use Rattle.laws_judge.proofs.path_lengths.path_lengths_by.Goals as goal

pub returns-clause-fit : goal.returns-clause-fit
returns-clause-fit g c = λ moment demand items anchors v. fit_has (rules_at moment demand (g.V.Vouch.vouches_for c.args._vouch.now)) items anchors v

pub returns-clause-one : goal.returns-clause-one
returns-clause-one g c = λ moment demand items v n m. one_length (rules_at moment demand (g.V.Vouch.vouches_for c.args._vouch.now)) items v n m

pub returns-clause-own : goal.returns-clause-own
returns-clause-own g c = λ moment demand items anchors v n. own_limit (rules_at moment demand (g.V.Vouch.vouches_for c.args._vouch.now)) items v n
