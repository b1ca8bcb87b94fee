use Rattle.cert_judge.specs.Items.{rules_by}
use Rattle.certpath_find.proofs.AnsweringAll.{says_what_find_says}
use Rattle.certpath_find.proofs.laws.inventory_says_what_find_says.Goals as goal

pub returns : goal.returns
returns g c = says_what_find_says (rules_by c.args._policy.now.moment c.args._policy.now.demand_lists (g.V.Vouch.vouches_for c.args._vouch.now))
