use Rattle.std.proofs.Common.{refl}
use Rattle.laws_asn1.proofs.OfHeaders.{sequence_is_head}
use Rattle.laws_asn1.proofs.headers.example_of_one_header.Goals as goal

pub returns : goal.returns
returns c = (sequence_is_head, refl)
