use Rattle.std.proofs.Common.{rules, ◌≡◌, ◌+◌, ◌*◌, ◌∷◌, sym, ap, ◌∙◌, arith}
use Rattle.std.specs.Int.Digits.{number_from_digits_after}
use Rattle.std.proofs.lemmas.Int.Digits.{number_after_ge}
use Rattle.asn1_core.proofs.Numbers.{empty_of}
use Rattle.asn1_core.proofs.read.large_number_of.Goals as goal

-- nothing is left, so the number so far is the whole
pub returns : goal.returns
returns c =
    let whole = c.loop-digit.invariant.value ∙ ap (number_from_digits_after 256 c.loop-digit.number) (empty_of c.loop-digit.rest.now c.in_default.ensures.cases) in
    (omega (arith, whole, c.loop-digit.invariant.small), sym whole)

-- the number so far is too large for another digit, so the whole is
pub returns-in_err-checked_mul : goal.returns-in_err-checked_mul
returns-in_err-checked_mul c =
    let e : c.loop-digit.rest.now ≡ c.in-Some.digit.now ∷ c.in-Some.after.now = search rules in
    let whole = c.loop-digit.invariant.value ∙ ap (number_from_digits_after 256 c.loop-digit.number) e in
    rw c.from_residual.ensures
    (λ small. c.in_err-checked_mul.ensures (omega (arith, whole, small, number_after_ge 256 (c.loop-digit.number * 256 + c.in-Some.digit.now) c.in-Some.after.now (omega arith))))
