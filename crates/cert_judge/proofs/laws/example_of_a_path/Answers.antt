use Rattle.cert_judge.proofs.ExampleLists.{path_of_two}
use Rattle.cert_judge.proofs.laws.example_of_a_path.Goals as goal

pub returns : goal.returns
returns c = path_of_two
