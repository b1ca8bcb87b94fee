use Rattle.cert_judge.proofs.ExamplePaths.{first_of_equals}
use Rattle.cert_judge.proofs.laws.example_of_equals.Goals as goal

pub returns : goal.returns
returns c = first_of_equals
