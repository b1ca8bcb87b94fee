use Rattle.std.proofs.Common.{◌+◌, ◌%◌, ◌/◌, ◌∙◌, ◌++◌, sym, ap, arith, lit<}
use Rattle.std.specs.Int.Digits.{digits_of}
use Rattle.asn1_traits.specs.Integers.{with_sign_bit}
use Rattle.asn1_traits.proofs.Digits.{pushed, signed_small, signed_step, signed_longer, room_after}
use Rattle.asn1_traits.proofs.octets.+push_positive.Goals as goal

pub returns-then-number-lt128 : goal.returns-then-number-lt128
returns-then-number-lt128 t c = c.push.ensures.items ∙ ap (λ z. c.args.out.now.items ++ z) (sym (signed_small c.args.number c.if-number-lt128.true))

pub push_positive-requires : goal.push_positive-requires
push_positive-requires t c = (omega (arith, c.if-number-lt128.false), omega (arith, c.requires, signed_longer c.args.number c.if-number-lt128.false))

pub push-requires-2 : goal.push-requires-2
push-requires-2 t c = (
  lit< tt,
  room_after c.args.out.now.items c.push_positive.new.out.items (with_sign_bit (digits_of 256 (c.args.number / 256))) c.push_positive.ensures
      (omega (arith, c.requires, signed_longer c.args.number c.if-number-lt128.false)),
)

pub returns : goal.returns
returns t c =
    pushed c.args.out.now.items c.push_positive.new.out.items c.push-2.new.self.items (with_sign_bit (digits_of 256 (c.args.number / 256))) _ (c.args.number % 256)
    c.push_positive.ensures (signed_step c.args.number c.if-number-lt128.false) c.push-2.ensures.items
