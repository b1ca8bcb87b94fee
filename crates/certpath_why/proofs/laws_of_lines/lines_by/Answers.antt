use Rattle.cert_judge.specs.Items.{rules_at}
use Rattle.certpath_why.proofs.Untold.{anchored_exactly, exactly_by_lines, linked_exactly, path_iff, usable_exactly}
use Rattle.certpath_why.proofs.laws_of_lines.lines_by.Goals as goal

pub returns-clause-usable : goal.returns-clause-usable
returns-clause-usable g c = λ moment demand v x cert text answers. usable_exactly (rules_at moment demand (g.V.Vouch.vouches_for c.args._vouch.now)) answers v x cert text

pub returns-clause-item : goal.returns-clause-item
returns-clause-item g c = λ moment demand items x cert w answers is subject. linked_exactly (rules_at moment demand (g.V.Vouch.vouches_for c.args._vouch.now)) answers items x cert w is subject

pub returns-clause-anchor : goal.returns-clause-anchor
returns-clause-anchor g c = λ moment demand items anchors x cert a answers is subject. anchored_exactly (rules_at moment demand (g.V.Vouch.vouches_for c.args._vouch.now)) answers items anchors x cert a is subject

pub returns-clause-lines : goal.returns-clause-lines
returns-clause-lines g c = λ moment demand items anchors target ps anchor answers. path_iff (rules_at moment demand (g.V.Vouch.vouches_for c.args._vouch.now)) answers items anchors target ps anchor

pub returns-clause-exactly : goal.returns-clause-exactly
returns-clause-exactly g c = λ moment demand items anchors target answer answers. exactly_by_lines (rules_at moment demand (g.V.Vouch.vouches_for c.args._vouch.now)) answers items anchors target answer
