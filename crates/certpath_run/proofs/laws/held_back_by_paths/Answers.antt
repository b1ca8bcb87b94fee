use Rattle.cert_judge.specs.Items.{rules_at}
use Rattle.certpath_run.proofs.Reaching.{held_back_iff}
use Rattle.certpath_run.proofs.laws.held_back_by_paths.Goals as goal

pub returns : goal.returns
returns g c = λ moment demand. held_back_iff (rules_at moment demand (g.V.Vouch.vouches_for c.args._vouch.now)) (rules_at moment demand (g.S.Vouch.vouches_for c.args._search.now))
