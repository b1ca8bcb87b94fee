use Rattle.cert_judge.specs.LawsOfItems.{rules_from}
use Rattle.certpath_why.proofs.Lengths.{exactly}
use Rattle.certpath_why.proofs.laws.path_exactly_where_nothing_stands_in_the_way.Goals as goal

pub returns : goal.returns
returns c = λ m d v items anchors target answer. exactly (rules_from m d v) items anchors target answer
