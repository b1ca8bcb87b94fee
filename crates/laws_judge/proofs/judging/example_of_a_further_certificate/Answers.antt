use Rattle.std.proofs.Common.{refl}
use Rattle.cert_judge.proofs.ExampleLaws.{path_by_both}
use Rattle.laws_judge.proofs.judging.example_of_a_further_certificate.Goals as goal

pub returns : goal.returns
returns c = (refl, path_by_both)
