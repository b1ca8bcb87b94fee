use Rattle.asn1_any.proofs.Cuts.{cutting_once}
use Rattle.asn1_any.proofs.laws.one_cutting.Goals as goal

pub returns : goal.returns
returns c = λ content pieces others tail last left right. cutting_once content pieces others tail last left right
