use Rattle.laws_asn1.proofs.OfIdentifiers.{spells, octets}
use Rattle.laws_asn1.proofs.identifiers.example_of_one_spelling.Goals as goal

pub returns : goal.returns
returns c = (spells, octets)
