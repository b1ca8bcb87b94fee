use Rattle.cert_judge.proofs.Examples.{length_is_zero}
use Rattle.laws_judge.proofs.OfPaths.{fit_by_any}
use Rattle.laws_judge.proofs.judging.example_of_a_limit.Goals as goal

pub returns : goal.returns
returns c = (fit_by_any, length_is_zero)
