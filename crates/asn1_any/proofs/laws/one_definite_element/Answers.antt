use Rattle.asn1_any.proofs.DerLaws.{der_once}
use Rattle.asn1_any.proofs.laws.one_definite_element.Goals as goal

pub returns : goal.returns
returns c = λ octets xs ys e f left right. der_once octets xs ys e f left right
