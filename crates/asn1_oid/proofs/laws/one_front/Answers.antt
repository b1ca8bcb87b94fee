use Rattle.asn1_oid.proofs.Fronts.{numbers_from_octets, octets_from_numbers}
use Rattle.asn1_oid.proofs.laws.one_front.Goals as goal

pub returns : goal.returns
returns c = λ whole front. (numbers_from_octets whole front, octets_from_numbers whole front)
