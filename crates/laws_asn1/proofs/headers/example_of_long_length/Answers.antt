use Rattle.std.proofs.Common.{arith}
use Rattle.laws_asn1.proofs.OfHeaders.{two_digits}
use Rattle.laws_asn1.proofs.headers.example_of_long_length.Goals as goal

pub returns : goal.returns
returns c = (omega arith, omega arith, two_digits, omega arith)
