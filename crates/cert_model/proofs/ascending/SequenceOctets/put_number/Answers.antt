use Rattle.std.proofs.Common.{◌/◌, ◌<◌, ◌++◌, length, sym, ap, ◌∙◌, arith}
use Rattle.std.specs.Int.Digits.{digits_of}
use Rattle.std.proofs.lemmas.Int.Digits.{length-digits_of_step}
use Rattle.asn1_core.proofs.Spellings.{last_digit}
use Rattle.cert_model.proofs.ascending.SequenceOctets.put_number.Goals as goal

pub loop-left-preserved : goal.loop-left-preserved
loop-left-preserved c =
    let n = c.loop-left.left in
    let some : 0 < n = omega arith in
    let grew = ap length c.put.ensures in
    record {
      room = omega (arith, length-digits_of_step 256 n (omega arith) some, grew, c.loop-left.invariant.room);
      whole = c.loop-left.invariant.whole ∙ last_digit 256 n c.loop-left.self (omega arith) some ∙ ap (λ tail. digits_of 256 (n / 256) ++ tail) (sym c.put.ensures);
    }
