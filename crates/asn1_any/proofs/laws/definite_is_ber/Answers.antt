use Rattle.asn1_any.proofs.DerLaws.{definite_begins}
use Rattle.asn1_any.proofs.laws.definite_is_ber.Goals as goal

pub returns : goal.returns
returns c = λ levels octets rest e begins. definite_begins levels octets rest e begins
