use Rattle.std.proofs.Common.{refl}
use Rattle.laws_asn1.proofs.OfHeaders.{null_is_element}
use Rattle.laws_asn1.proofs.headers.example_of_one_element.Goals as goal

pub returns : goal.returns
returns c = (null_is_element, refl)
