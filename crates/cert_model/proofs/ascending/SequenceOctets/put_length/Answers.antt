use Rattle.std.proofs.Common.{length, ap, arith, length-append}
use Rattle.std.specs.Int.Digits.{digits_of}
use Rattle.cert_model.proofs.Orders.{length_digits}
use Rattle.cert_model.proofs.ascending.SequenceOctets.put_length.Goals as goal

pub put_number-requires : goal.put_number-requires
put_number-requires c = omega (arith, length_digits c.args.size (omega arith), ap length c.requires)

pub put-requires-else-size-lt-SHORT_LENGTHS : goal.put-requires-else-size-lt-SHORT_LENGTHS
put-requires-else-size-lt-SHORT_LENGTHS c =
    let all = ap length c.put_number.ensures in
    omega (arith, length_digits c.args.size (omega arith), all, length-append (digits_of 256 c.args.size) c.args.self.now, ap length c.requires)

pub returns-else-size-lt-SHORT_LENGTHS-clause-few : goal.returns-else-size-lt-SHORT_LENGTHS-clause-few
returns-else-size-lt-SHORT_LENGTHS-clause-few c =
    let put = ap length c.put-else-size-lt-SHORT_LENGTHS.ensures in
    let all = ap length c.put_number.ensures in
    omega (arith, put, length_digits c.args.size (omega arith), all, length-append (digits_of 256 c.args.size) c.args.self.now, ap length c.requires)
