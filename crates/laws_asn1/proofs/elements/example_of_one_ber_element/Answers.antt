use Rattle.laws_asn1.proofs.OfElements.{begins_ber}
use Rattle.laws_asn1.proofs.elements.example_of_one_ber_element.Goals as goal

pub returns : goal.returns
returns c = begins_ber
