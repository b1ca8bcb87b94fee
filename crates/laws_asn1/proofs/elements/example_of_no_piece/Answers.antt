use Rattle.std.proofs.Common.{refl}
use Rattle.laws_asn1.proofs.OfElements.{long_is_piece, none_cut, octet}
use Rattle.laws_asn1.proofs.elements.example_of_no_piece.Goals as goal

pub returns-clause-none : goal.returns-clause-none
returns-clause-none c = (octet, none_cut)

pub returns-clause-more : goal.returns-clause-more
returns-clause-more c = (long_is_piece, refl)
