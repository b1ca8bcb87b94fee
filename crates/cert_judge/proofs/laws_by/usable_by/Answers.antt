use Rattle.cert_judge.proofs.FurtherFacts.{usable_apart}
use Rattle.cert_judge.proofs.laws_by.usable_by.Goals as goal

pub returns : goal.returns
returns g c = λ moment item d. usable_apart ((g.V.Vouch.vouches_for c.args._vouch.now).Processes item) moment d
