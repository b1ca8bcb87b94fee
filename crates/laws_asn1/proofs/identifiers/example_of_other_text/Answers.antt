use Rattle.laws_asn1.proofs.OfIdentifiers.{unspelled}
use Rattle.laws_asn1.proofs.identifiers.example_of_other_text.Goals as goal

pub returns : goal.returns
returns c = unspelled
