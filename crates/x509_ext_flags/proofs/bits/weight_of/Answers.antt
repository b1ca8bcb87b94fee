use Rattle.std.proofs.Common.{◌≡◌, ◌-◌, subst, ◌<◌, ◌^◌, arith}
use Rattle.x509_ext_flags.specs.Reading.{weight}
use Rattle.x509_ext_flags.proofs.BitLaws.{weight_none, weight_below, weight_small, weight_more}
use Rattle.x509_ext_flags.proofs.bits.weight_of.Goals as goal

pub loop-at-init : goal.loop-at-init
loop-at-init c =
    let none : c.args.width - c.args.width ≡ 0 = omega arith in
    record { value = rw none (weight_none c.args.width c.args.octets.now); within = omega arith }

pub overflow_mul-flags : goal.overflow_mul-flags
overflow_mul-flags c =
    let value = c.loop-at.invariant.value in
    let small = weight_small (c.args.width - c.loop-at.at) c.loop-at.at c.args.octets.now (omega (arith, c.requires, c.loop-at-test.true)) in
    omega (arith, value, small)

pub overflow_add-flags : goal.overflow_add-flags
overflow_add-flags c =
    let value = c.loop-at.invariant.value in
    let bit = c.digit_of.ensures.small in
    let small = weight_small (c.args.width - c.loop-at.at) c.loop-at.at c.args.octets.now (omega (arith, c.requires, c.loop-at-test.true)) in
    omega (arith, value, small, bit)

pub loop-at-preserved : goal.loop-at-preserved
loop-at-preserved c =
    let more = weight_more c.args.width c.loop-at.at c.args.octets.now c.loop-at-test.true c.loop-at.invariant.within in
    record { value = rw (c.loop-at.invariant.value, c.digit_of.ensures.value, c.octet_bit.ensures) more; within = omega (arith, c.loop-at.invariant.within) }

pub returns-clause-small : goal.returns-clause-small
returns-clause-small c =
    let none : c.loop-at.at ≡ 0 = omega (arith, c.loop-at-test.false) in
    let all : c.args.width - c.loop-at.at ≡ c.args.width = omega (arith, none) in
    let small = weight_below (c.args.width - c.loop-at.at) c.loop-at.at c.args.octets.now in
    rw (c.loop-at.invariant.value) (subst (λ n. weight (c.args.width - c.loop-at.at) c.loop-at.at c.args.octets.now < 2 ^ n) all small)
