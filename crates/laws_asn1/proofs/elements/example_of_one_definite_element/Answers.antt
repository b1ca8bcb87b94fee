use Rattle.laws_asn1.proofs.OfElements.{begins}
use Rattle.laws_asn1.proofs.elements.example_of_one_definite_element.Goals as goal

pub returns : goal.returns
returns c = begins
