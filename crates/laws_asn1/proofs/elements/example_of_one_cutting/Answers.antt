use Rattle.laws_asn1.proofs.OfElements.{long_is_piece, one_cut, octet}
use Rattle.laws_asn1.proofs.elements.example_of_one_cutting.Goals as goal

pub returns : goal.returns
returns c = (long_is_piece, one_cut, octet)
