use Rattle.asn1_any.proofs.BerReading.{ber_once}
use Rattle.asn1_any.proofs.laws.one_ber_element.Goals as goal

pub returns : goal.returns
returns c = λ levels octets xs ys e f left right. ber_once levels octets xs ys e f left right
