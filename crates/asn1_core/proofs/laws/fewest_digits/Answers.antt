use Rattle.asn1_core.proofs.Numbers.{digits_shortest}
use Rattle.asn1_core.proofs.laws.fewest_digits.Goals as goal

pub returns : goal.returns
returns c = digits_shortest
