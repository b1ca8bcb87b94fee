use Rattle.cert_judge.specs.LawsOfItems.{rules_from}
use Rattle.certpath_why.proofs.DecidedRules.{tests_decide}
use Rattle.certpath_why.proofs.Untold.{exactly_by_lines, path_iff}
use Rattle.certpath_why.proofs.laws_of_lines.path_exactly_where_no_line_is.Goals as goal

pub returns-clause-lines : goal.returns-clause-lines
returns-clause-lines c = λ m d t items anchors target ps anchor. path_iff (rules_from m d t) (tests_decide m d t) items anchors target ps anchor

pub returns-clause-exactly : goal.returns-clause-exactly
returns-clause-exactly c = λ m d t items anchors target answer. exactly_by_lines (rules_from m d t) (tests_decide m d t) items anchors target answer
