use Rattle.cert_judge.specs.Items.{rules_by}
use Rattle.certpath_find.proofs.AnsweringAll as lemmas
use Rattle.certpath_find.proofs.laws.check_all_says_yes.Goals as goal

pub returns : goal.returns
returns g c = lemmas.check_all_says_yes (rules_by c.args._policy.now.moment c.args._policy.now.demand_lists (g.V.Vouch.vouches_for c.args._vouch.now))
