use Rattle.cert_judge.proofs.Examples.{first_second, last_second, second_before, second_behind}
use Rattle.cert_judge.proofs.laws.examples_of_moments.Goals as goal

pub returns-clause-first : goal.returns-clause-first
returns-clause-first c = first_second

pub returns-clause-last : goal.returns-clause-last
returns-clause-last c = last_second

pub returns-clause-before : goal.returns-clause-before
returns-clause-before c = second_before

pub returns-clause-behind : goal.returns-clause-behind
returns-clause-behind c = second_behind
