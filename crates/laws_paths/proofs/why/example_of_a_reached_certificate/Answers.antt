use Rattle.laws_paths.proofs.OfWhy.{second, uncounted}
use Rattle.laws_paths.proofs.why.example_of_a_reached_certificate.Goals as goal

pub returns-clause-tests : goal.returns-clause-tests
returns-clause-tests c = (uncounted, second)

pub returns-clause-values : goal.returns-clause-values
returns-clause-values c = (uncounted, second)
