use Rattle.certpath_why.proofs.DecidedRules.{tests_decide}
use Rattle.certpath_why.proofs.laws_of_lines.tests_decide.Goals as goal

pub returns : goal.returns
returns c = λ m d t. tests_decide m d t
