use Rattle.laws_judge.proofs.OfPaths.{adequate, holds}
use Rattle.laws_judge.proofs.judging.example_of_answers_by.Goals as goal

pub returns-clause-adequate : goal.returns-clause-adequate
returns-clause-adequate c = adequate c.args.alloc

pub returns-clause-holds : goal.returns-clause-holds
returns-clause-holds c = (holds c.args.alloc, holds c.args.alloc)
