use Rattle.laws_paths.proofs.OfBound.{none, uncounted}
use Rattle.laws_paths.proofs.why.example_of_a_bound.Goals as goal

pub returns-clause-tests : goal.returns-clause-tests
returns-clause-tests c = (none c.args.alloc, uncounted)

pub returns-clause-values : goal.returns-clause-values
returns-clause-values c = (none c.args.alloc, uncounted)
