use Rattle.std.proofs.Common.{refl}
use Rattle.laws_asn1.proofs.OfHeaders.{sequence_is_head, long_spells}
use Rattle.laws_asn1.proofs.headers.example_of_one_lenient_header.Goals as goal

pub returns : goal.returns
returns c = (sequence_is_head, long_spells, refl)
