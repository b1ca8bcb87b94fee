use Rattle.asn1_core.proofs.StrictLaws.{one_header_lem}
use Rattle.asn1_core.proofs.laws.one_header.Goals as goal

pub returns : goal.returns
returns c = one_header_lem
