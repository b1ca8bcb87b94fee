use Rattle.cert_judge.proofs.ExampleLaws.{path_by_both}
use Rattle.laws_judge.proofs.OfPaths.{more}
use Rattle.laws_judge.proofs.judging.example_of_more_by.Goals as goal

pub returns-clause-more : goal.returns-clause-more
returns-clause-more c = more

pub returns-clause-path : goal.returns-clause-path
returns-clause-path c = path_by_both
