use Rattle.cert_judge.proofs.ExamplePaths.{none_below_limit}
use Rattle.cert_judge.proofs.laws.example_of_no_path.Goals as goal

pub returns : goal.returns
returns c = none_below_limit
