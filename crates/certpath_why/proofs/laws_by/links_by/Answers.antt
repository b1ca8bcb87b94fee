use Rattle.cert_judge.specs.Items.{rules_at}
use Rattle.certpath_why.proofs.Fated.{none_against, some_against}
use Rattle.certpath_why.proofs.laws_by.links_by.Goals as goal

pub returns-clause-linked : goal.returns-clause-linked
returns-clause-linked g c = λ moment demand items x cert w reason is. none_against (rules_at moment demand (g.V.Vouch.vouches_for c.args._vouch.now)) items x cert w reason is

pub returns-clause-unlinked : goal.returns-clause-unlinked
returns-clause-unlinked g c = λ moment demand items x cert w is. some_against (rules_at moment demand (g.V.Vouch.vouches_for c.args._vouch.now)) items x cert w is
