use Rattle.std.proofs.Common.{refl}
use Rattle.laws_asn1.proofs.OfHeaders.{indefinite_is_head, indefinite_spells}
use Rattle.laws_asn1.proofs.headers.example_of_one_ber_header.Goals as goal

pub returns : goal.returns
returns c = (indefinite_is_head, indefinite_spells, refl)
