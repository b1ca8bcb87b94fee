use Rattle.cert_judge.specs.LawsOfItems.{rules_from}
use Rattle.certpath_why.proofs.DecidedRules.{tests_decide}
use Rattle.certpath_why.proofs.Untold.{anchored_exactly, linked_exactly}
use Rattle.certpath_why.proofs.laws_of_lines.linked_exactly_where_no_reason_is.Goals as goal

pub returns-clause-item : goal.returns-clause-item
returns-clause-item c = λ m d t items x cert w is subject. linked_exactly (rules_from m d t) (tests_decide m d t) items x cert w is subject

pub returns-clause-anchor : goal.returns-clause-anchor
returns-clause-anchor c = λ m d t items anchors x cert a is subject. anchored_exactly (rules_from m d t) (tests_decide m d t) items anchors x cert a is subject
