use Rattle.asn1_core.proofs.LenientLaws.{one_lenient_header_lem}
use Rattle.asn1_core.proofs.laws.one_lenient_header.Goals as goal

pub returns : goal.returns
returns c = one_lenient_header_lem
