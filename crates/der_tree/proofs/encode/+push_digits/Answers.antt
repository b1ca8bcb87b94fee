use Rattle.std.proofs.Common.{◌%◌, ◌/◌, arith}
use Rattle.std.specs.Int.Digits.{digits_of}
use Rattle.std.proofs.lemmas.Int.Digits.{digits_of_step}
use Rattle.der_tree.proofs.Encoded.{pushed}
use Rattle.der_tree.proofs.encode.+push_digits.Goals as goal

pub returns : goal.returns
returns t c =
    pushed c.push.result c.args.out.now.items c.push_digits.new.out.items c.push.new.out.items (digits_of 256 (c.args.number / 256)) _ (c.args.number % 256)
    c.in_ok-push_digits.ensures (digits_of_step 256 c.args.number (omega arith) (omega arith)) c.push.ensures
