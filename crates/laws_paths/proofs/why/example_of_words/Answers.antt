use Rattle.laws_paths.proofs.OfWhy.{hosts, short_hosts, short_uses, uses}
use Rattle.laws_paths.proofs.why.example_of_words.Goals as goal

pub returns-clause-uses : goal.returns-clause-uses
returns-clause-uses c = (short_uses, uses)

pub returns-clause-hosts : goal.returns-clause-hosts
returns-clause-hosts c = (short_hosts, hosts)
