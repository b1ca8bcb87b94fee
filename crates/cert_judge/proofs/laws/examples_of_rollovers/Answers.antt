use Rattle.cert_judge.proofs.ExamplePaths.{rolled_over, rolled_over_twice, other_road}
use Rattle.cert_judge.proofs.laws.examples_of_rollovers.Goals as goal

pub returns : goal.returns
returns c = record { once = rolled_over; twice = rolled_over_twice; beside = other_road }
