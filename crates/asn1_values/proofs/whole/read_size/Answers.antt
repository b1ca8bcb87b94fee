use Rattle.std.proofs.Common.{rules, ◌≡◌, ◌+◌, ◌*◌, ◌-◌, if◌then◌else◌, ◌∷◌, ap, ◌∙◌, arith}
use Rattle.std.specs.Int.Digits.{number_from_digits_after}
use Rattle.std.proofs.lemmas.Int.Digits.{number_after_ge}
use Rattle.asn1_traits.specs.Integers.{unsigned_octets}
use Rattle.asn1_traits.proofs.Wholes.{unsigned_cons}
use Rattle.asn1_values.proofs.whole.read_size.Goals as goal

-- the number so far is too large for another digit, so the whole is
pub returns-in_err-checked_mul : goal.returns-in_err-checked_mul
returns-in_err-checked_mul c =
    let b = c.args.negative in
    let octet = c.in-Some.octet.now in
    let digit = if b then 255 - octet else octet in
    let e : c.loop-octet.rest.now ≡ octet ∷ c.in-Some.after.now = search rules in
    let whole = c.loop-octet.invariant.value ∙ ap (λ z. number_from_digits_after 256 c.loop-octet.number (unsigned_octets b z)) e ∙ ap (number_from_digits_after 256 c.loop-octet.number) (unsigned_cons b octet c.in-Some.after.now) in
    rw c.from_residual.ensures
    (λ small. c.in_err-checked_mul.ensures (omega (arith, whole, small, number_after_ge 256 (c.loop-octet.number * 256 + digit) (unsigned_octets b c.in-Some.after.now) (omega arith))))
