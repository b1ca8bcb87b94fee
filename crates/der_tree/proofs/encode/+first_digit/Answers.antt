use Rattle.std.proofs.Common.{◌∙◌, sym, ap, get_or, arith}
use Rattle.der_tree.proofs.Encoded.{one_digit, first_digit_of}
use Rattle.der_tree.proofs.encode.+first_digit.Goals as goal

pub returns-then-number-lt256 : goal.returns-then-number-lt256
returns-then-number-lt256 t c = sym (ap (λ z. get_or z 0 0) (one_digit c.args.number c.requires (omega arith)))

pub returns-else-number-lt256 : goal.returns-else-number-lt256
returns-else-number-lt256 t c = c.first_digit.ensures ∙ sym (first_digit_of c.args.number (omega arith))
