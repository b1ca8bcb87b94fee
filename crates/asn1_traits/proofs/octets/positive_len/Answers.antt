use Rattle.std.proofs.Common.{◌∙◌, ap, length, arith}
use Rattle.std.specs.Int.Digits.{digits_of}
use Rattle.asn1_traits.specs.Integers.{with_sign_bit}
use Rattle.asn1_traits.proofs.Digits.{few_signed, signed_small, signed_longer}
use Rattle.asn1_traits.proofs.octets.positive_len.Goals as goal

pub overflow_add-len : goal.overflow_add-len
overflow_add-len c = omega (arith, c.loop-left.invariant, few_signed c.args.number (omega arith))

pub loop-left-preserved : goal.loop-left-preserved
loop-left-preserved c = omega (arith, c.loop-left.invariant, signed_longer c.loop-left.left c.loop-left-test.true)

pub returns : goal.returns
returns c = omega (arith, c.loop-left.invariant, ap length (signed_small c.loop-left.left c.loop-left-test.false))
