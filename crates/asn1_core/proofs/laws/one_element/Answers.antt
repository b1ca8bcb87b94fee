use Rattle.asn1_core.proofs.StrictLaws.{one_element_lem}
use Rattle.asn1_core.proofs.laws.one_element.Goals as goal

pub returns : goal.returns
returns c = one_element_lem
