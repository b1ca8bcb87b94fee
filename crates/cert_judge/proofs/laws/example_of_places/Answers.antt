use Rattle.std.proofs.Common.{refl}
use Rattle.cert_judge.proofs.ExampleLaws.{goes_there, goes_back}
use Rattle.cert_judge.proofs.laws.example_of_places.Goals as goal

pub returns : goal.returns
returns c = record { there = goes_there; back = goes_back; target = refl }
