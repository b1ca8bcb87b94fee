use Rattle.cert_judge.specs.LawsOfItems.{rules_from}
use Rattle.certpath_why.proofs.Lengths.{in_the_way}
use Rattle.certpath_why.proofs.laws.path_length_stands_in_the_way.Goals as goal

pub returns : goal.returns
returns c = λ m d v items anchors target table ps a. in_the_way (rules_from m d v) items anchors target table ps a
