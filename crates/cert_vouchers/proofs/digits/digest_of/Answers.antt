use Rattle.std.proofs.Common.{◌∙◌, sym, arith, ◌*◌}
use Rattle.std.proofs.lemmas.List.{length-set}
use Rattle.hex.proofs.Pairs.{decode_step, decode_done, decode_err}
use Rattle.cert_vouchers.proofs.DigitFacts.{sized, one_value, not_both}
use Rattle.cert_vouchers.proofs.digits.digest_of.Goals as goal

pub returns-in_err-digest-clause-only : goal.returns-in_err-digest-clause-only
returns-in_err-digest-clause-only c = λ digest is.
    let len = c.if-digits-ne-DIGITS.false in
    let bad = c.in_err-digest.ensures.none (2 * c.loop-place.place) in
    let none = decode_err c.args.digits.now c.loop-place.digest c.loop-place.place bad.0 (omega (arith, len, c.loop-place-test.true)) bad.1 c.loop-place.invariant.1 in
    absurd (not_both _ _ _ is (sized c.args.digits.now len ∙ none))

pub loop-place-preserved : goal.loop-place-preserved
loop-place-preserved c =
    let len = c.if-digits-ne-DIGITS.false in (
      length-set _ _ _ ∙ c.loop-place.invariant.0,
      decode_step c.args.digits.now c.loop-place.digest c.loop-place.place _ (omega (arith, len, c.loop-place-test.true)) (omega (arith, c.loop-place.invariant.0, c.loop-place-test.true)) (c.in_ok-digest.ensures.found (2 * c.loop-place.place)) c.loop-place.invariant.1,
    )

pub returns-clause-found : goal.returns-clause-found
returns-clause-found c =
    let len = c.if-digits-ne-DIGITS.false in
    sized c.args.digits.now len ∙ decode_done c.args.digits.now c.loop-place.digest c.loop-place.place (omega (arith, c.loop-place.invariant.0, c.loop-place-test.false)) (omega (arith, len, c.loop-place-test.false)) c.loop-place.invariant.1

pub returns-clause-only : goal.returns-clause-only
returns-clause-only c = λ digest is.
    let len = c.if-digits-ne-DIGITS.false in
    one_value _ _ (sym (sized c.args.digits.now len ∙ decode_done c.args.digits.now c.loop-place.digest c.loop-place.place (omega (arith, c.loop-place.invariant.0, c.loop-place-test.false)) (omega (arith, len, c.loop-place-test.false)) c.loop-place.invariant.1) ∙ is)
