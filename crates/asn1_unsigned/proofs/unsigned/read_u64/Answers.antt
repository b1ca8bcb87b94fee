use Rattle.std.proofs.Common.{rules, ◌≡◌, ◌+◌, ◌*◌, ◌∷◌, ap, ◌∙◌, arith}
use Rattle.std.specs.Int.Digits.{number_from_digits_after}
use Rattle.std.proofs.lemmas.Int.Digits.{number_after_ge}
use Rattle.asn1_unsigned.proofs.unsigned.read_u64.Goals as goal

-- the number so far is too large for another octet, so the whole is
pub returns-in_err-checked_mul : goal.returns-in_err-checked_mul
returns-in_err-checked_mul c =
    let octet = c.in-Some.octet.now in
    let e : c.loop-octet.rest.now ≡ octet ∷ c.in-Some.after.now = search rules in
    let whole = c.loop-octet.invariant.value ∙ ap (number_from_digits_after 256 c.loop-octet.number) e in
    rw c.from_residual.ensures
    (λ small. c.in_err-checked_mul.ensures (omega (arith, whole, small, number_after_ge 256 (c.loop-octet.number * 256 + octet) c.in-Some.after.now (omega arith))))
