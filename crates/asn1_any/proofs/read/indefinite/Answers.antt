use Rattle.std.proofs.Common.{arith}
use Rattle.asn1_core.proofs.Numbers.{octets_below}
use Rattle.asn1_any.proofs.BerReading.{contents_long}
use Rattle.asn1_any.proofs.read.indefinite.Goals as goal

pub overflow_sub-after : goal.overflow_sub-after
overflow_sub-after c =
    let below = octets_below c.args.after.now (λ k. omega (arith, c.type_inv.after k)) in
    let long = contents_long c.args.levels c.args.after.now c.in_ok-rest.rest.now below c.in_ok-rest.ensures in
    omega (arith, long)

pub overflow_sub-after-2 : goal.overflow_sub-after-2
overflow_sub-after-2 c =
    let below = octets_below c.args.after.now (λ k. omega (arith, c.type_inv.after k)) in
    let long = contents_long c.args.levels c.args.after.now c.in_ok-rest.rest.now below c.in_ok-rest.ensures in
    omega (arith, long)
