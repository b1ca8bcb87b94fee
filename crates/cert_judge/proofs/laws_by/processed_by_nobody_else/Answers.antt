use Rattle.cert_judge.proofs.FurtherFacts.{processed_here}
use Rattle.cert_judge.proofs.laws_by.processed_by_nobody_else.Goals as goal

pub returns : goal.returns
returns g c = λ item none e. processed_here ((g.V.Vouch.vouches_for c.args._vouch.now).Processes item) e none
