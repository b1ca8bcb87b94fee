use Rattle.cert_judge.specs.LawsOfItems.{rules_from}
use Rattle.certpath_why.proofs.Lengths.{all_reached}
use Rattle.certpath_why.proofs.laws.certificates_of_a_path_are_reached.Goals as goal

pub returns : goal.returns
returns c = λ m d v items anchors target ps a u. all_reached (rules_from m d v) items anchors target ps a u
