use Rattle.laws_judge.proofs.OfPermits.{alike}
use Rattle.laws_judge.proofs.restricting.example_of_alikes_by.Goals as goal

pub returns : goal.returns
returns c = alike
