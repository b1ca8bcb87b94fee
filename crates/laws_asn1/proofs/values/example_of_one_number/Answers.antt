use Rattle.std.proofs.Common.{refl}
use Rattle.laws_asn1.proofs.OfValues.{octets, shortest}
use Rattle.laws_asn1.proofs.values.example_of_one_number.Goals as goal

pub returns : goal.returns
returns c = (octets, shortest, refl)
