use Rattle.cert_judge.specs.Items.{rules_at}
use Rattle.certpath_why.proofs.Lengths.{all_reached, in_the_way, exactly}
use Rattle.certpath_why.proofs.laws_by.bounds_by.Goals as goal

pub returns-clause-reached : goal.returns-clause-reached
returns-clause-reached g c = λ moment demand items anchors target ps a u. all_reached (rules_at moment demand (g.V.Vouch.vouches_for c.args._vouch.now)) items anchors target ps a u

pub returns-clause-held : goal.returns-clause-held
returns-clause-held g c = λ moment demand items anchors target table ps a. in_the_way (rules_at moment demand (g.V.Vouch.vouches_for c.args._vouch.now)) items anchors target table ps a

pub returns-clause-exactly : goal.returns-clause-exactly
returns-clause-exactly g c = λ moment demand items anchors target answer. exactly (rules_at moment demand (g.V.Vouch.vouches_for c.args._vouch.now)) items anchors target answer
