use Rattle.laws_judge.proofs.OfPaths.{adequate}
use Rattle.laws_judge.proofs.judging.example_of_an_adequate_answer.Goals as goal

pub returns : goal.returns
returns c = adequate c.args.alloc
