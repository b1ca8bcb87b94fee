use Rattle.asn1_any.proofs.DerLaws.{der_stays}
use Rattle.asn1_any.proofs.BerReading.{ber_stays}
use Rattle.asn1_any.proofs.laws.more_octets.Goals as goal

pub returns-clause-definite : goal.returns-clause-definite
returns-clause-definite c = λ octets rest more e begins. der_stays octets rest more e begins

pub returns-clause-ber : goal.returns-clause-ber
returns-clause-ber c = λ levels octets rest more e begins. ber_stays levels octets rest more e begins
