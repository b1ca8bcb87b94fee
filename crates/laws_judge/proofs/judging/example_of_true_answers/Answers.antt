use Rattle.laws_judge.proofs.OfPaths.{holds}
use Rattle.laws_judge.proofs.judging.example_of_true_answers.Goals as goal

pub returns : goal.returns
returns c = (holds c.args.alloc, holds c.args.alloc)
