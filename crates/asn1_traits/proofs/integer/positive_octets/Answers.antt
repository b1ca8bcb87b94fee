use Rattle.std.proofs.Common.{ap, length, arith, length-append}
use Rattle.std.specs.Int.Digits.{digits_of}
use Rattle.asn1_traits.specs.Integers.{with_sign_bit}
use Rattle.asn1_traits.proofs.Digits.{few_signed}
use Rattle.asn1_traits.proofs.integer.positive_octets.Goals as goal

pub push_positive-requires : goal.push_positive-requires
push_positive-requires c = omega (arith, ap length c.new-octets.ensures, few_signed c.args.number (omega arith))

pub returns-clause-short : goal.returns-clause-short
returns-clause-short c =
    omega (arith, ap length c.push_positive.ensures, length-append c.new-octets.result.items (with_sign_bit (digits_of 256 c.args.number)), ap length c.new-octets.ensures, few_signed c.args.number (omega arith))
