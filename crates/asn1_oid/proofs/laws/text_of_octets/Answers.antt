use Rattle.asn1_oid.proofs.TextOf.{text_spelled, text_other}
use Rattle.asn1_oid.proofs.laws.text_of_octets.Goals as goal

pub returns : goal.returns
returns c = record { components = text_spelled; others = text_other }
