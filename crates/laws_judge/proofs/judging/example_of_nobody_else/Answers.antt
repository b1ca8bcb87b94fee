use Rattle.laws_judge.proofs.judging.example_of_nobody_else.Goals as goal

pub returns : goal.returns
returns c = λ identifier is. is
