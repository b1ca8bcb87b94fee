use Rattle.std.proofs.Common.{◌+◌, ◌/◌, ◌<◌, ◌++◌, length, map, sym, ap, ◌∙◌, arith}
use Rattle.std.specs.Int.Digits.{digits_of}
use Rattle.std.proofs.lemmas.Int.Digits.{length-digits_of_step}
use Rattle.asn1_core.proofs.Spellings.{last_tag_digit, last_high_digit}
use Rattle.asn1_core.proofs.octets.HeaderOctets.put_tag.Goals as goal

pub put-requires : goal.put-requires
put-requires c = omega (arith, length-digits_of_step 128 c.args.tag (omega arith) c.requires.some, c.requires.room)

pub loop-left-init : goal.loop-left-init
loop-left-init c =
    let n = c.args.tag in
    let grew = ap length c.put.ensures in
    record {
      room = omega (arith, length-digits_of_step 128 n (omega arith) c.requires.some, grew, c.requires.room);
      whole = last_tag_digit n c.args.self.now c.requires.some ∙ ap (λ tail. map (λ d. 128 + d) (digits_of 128 (n / 128)) ++ tail) (sym c.put.ensures);
    }

pub put-requires-in-loop-left : goal.put-requires-in-loop-left
put-requires-in-loop-left c =
    let some : 0 < c.loop-left.left = omega arith in
    omega (arith, length-digits_of_step 128 c.loop-left.left (omega arith) some, c.loop-left.invariant.room)

pub loop-left-preserved : goal.loop-left-preserved
loop-left-preserved c =
    let n = c.loop-left.left in
    let some : 0 < n = omega arith in
    let grew = ap length c.put-in-loop-left.ensures in
    record {
      room = omega (arith, length-digits_of_step 128 n (omega arith) some, grew, c.loop-left.invariant.room);
      whole = c.loop-left.invariant.whole ∙ last_high_digit n c.loop-left.self some ∙ ap (λ tail. map (λ d. 128 + d) (digits_of 128 (n / 128)) ++ tail) (sym c.put-in-loop-left.ensures);
    }
