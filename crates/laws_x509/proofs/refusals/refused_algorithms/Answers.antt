use Rattle.laws_x509.proofs.NameSteps.{algorithm_found, algorithm_only}
use Rattle.laws_x509.proofs.refusals.refused_algorithms.Goals as goal

pub returns-clause-found : goal.returns-clause-found
returns-clause-found c = algorithm_found

pub returns-clause-only : goal.returns-clause-only
returns-clause-only c = algorithm_only
