use Rattle.std.proofs.Common.{◌∙◌, ap, ◌+◌, ◌*◌, Ok}
use Rattle.hex.specs.Hex.{digit_or_error, value_at, ◌>>=◌}
use Rattle.hex.specs.declared.error.FromHexError.TheVariants.{InvalidHexCharacter}
use Rattle.cert_vouchers.proofs.digits.octet_of.Goals as goal

pub returns-then-first-gt15-clause-none : goal.returns-then-first-gt15-clause-none
returns-then-first-gt15-clause-none c = λ place.
    let a = c.args.high in
    let b = c.args.low in
    (InvalidHexCharacter a place, ap (λ o. digit_or_error a place o >>= (λ h. value_at b (place + 1) >>= (λ l. Ok (h * 16 + l)))) (c.value_of-first.ensures.none c.if-first-gt15.true))

pub returns-then-second-gt15-clause-none : goal.returns-then-second-gt15-clause-none
returns-then-second-gt15-clause-none c = λ place.
    let a = c.args.high in
    let b = c.args.low in
    let first = c.value_of-first.result in (
      InvalidHexCharacter b (place + 1),
      ap (λ o. digit_or_error a place o >>= (λ h. value_at b (place + 1) >>= (λ l. Ok (h * 16 + l)))) (c.value_of-first.ensures.there c.if-first-gt15.false)
          ∙ ap (λ o. digit_or_error b (place + 1) o >>= (λ l. Ok (first * 16 + l))) (c.value_of-second.ensures.none c.if-second-gt15.true),
    )
