use Rattle.asn1_core.proofs.LenientLaws.{one_ber_header_lem}
use Rattle.asn1_core.proofs.laws.one_ber_header.Goals as goal

pub returns : goal.returns
returns c = one_ber_header_lem
