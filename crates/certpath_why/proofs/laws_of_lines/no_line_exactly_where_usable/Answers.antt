use Rattle.cert_judge.specs.LawsOfItems.{rules_from}
use Rattle.certpath_why.proofs.DecidedRules.{tests_decide}
use Rattle.certpath_why.proofs.Untold.{usable_exactly}
use Rattle.certpath_why.proofs.laws_of_lines.no_line_exactly_where_usable.Goals as goal

pub returns : goal.returns
returns c = λ m d t v x cert text. usable_exactly (rules_from m d t) (tests_decide m d t) v x cert text
