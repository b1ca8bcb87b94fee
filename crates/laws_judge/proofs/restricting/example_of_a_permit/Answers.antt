use Rattle.laws_judge.proofs.OfPermits.{permits}
use Rattle.laws_judge.proofs.restricting.example_of_a_permit.Goals as goal

pub returns : goal.returns
returns c = permits
