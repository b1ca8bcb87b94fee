use Rattle.certpath_why.proofs.Worked.{held_by_the_limit, target_not_held}
use Rattle.certpath_why.proofs.laws.example_of_a_bound.Goals as goal

pub returns-clause-bound : goal.returns-clause-bound
returns-clause-bound c = held_by_the_limit

pub returns-clause-target : goal.returns-clause-target
returns-clause-target c = target_not_held
