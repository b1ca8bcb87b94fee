use Rattle.std.proofs.Common.{ap}
use Rattle.std.specs.Int.Digits.{number_from_digits}
use Rattle.asn1_unsigned.specs.Numbers.{same_octets}
use Rattle.asn1_unsigned.proofs.laws.one_spelling.Goals as goal

pub returns : goal.returns
returns c = λ v w. (same_octets v w, ap (number_from_digits 256))
