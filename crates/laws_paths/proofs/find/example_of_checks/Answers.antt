use Rattle.cert_graph.specs.Adequate.{IsAdequate}
use Rattle.laws_paths.specs.Found.{none_found, path_found}
use Rattle.laws_paths.proofs.OfBound.{none}
use Rattle.laws_paths.proofs.OfFound.{adequate_path, checked}
use Rattle.laws_paths.proofs.find.example_of_checks.Goals as goal

pub returns-clause-none : goal.returns-clause-none
returns-clause-none c = checked (λ g. IsAdequate g 0 (none_found c.args.alloc)) (none c.args.alloc)

pub returns-clause-path : goal.returns-clause-path
returns-clause-path c = checked (λ g. IsAdequate g 1 (path_found c.args.alloc)) (adequate_path c.args.alloc)
