use Rattle.std.proofs.Common.{refl}
use Rattle.rows_check.specs.Vouching.{IsVouched}
use Rattle.cert_judge.proofs.Mapped.{any_found, none_step, none_any, not_both}
use Rattle.rows_check.proofs.vouching.are_vouched.Goals as goal

pub returns-then-is_vouched : goal.returns-then-is_vouched
returns-then-is_vouched c =
    let P = IsVouched c.args.key.now c.args.item.now in
    (λ t. any_found P c.args.pairs.now c.loop-pair.pair-index c.pair-item.result c.loop-pair-test.true c.pair-item.is (c.is_vouched.ensures.0 c.if-is_vouched.true), λ h. refl)

pub loop-pair-preserved : goal.loop-pair-preserved
loop-pair-preserved c =
    none_step (IsVouched c.args.key.now c.args.item.now) c.args.pairs.now c.loop-pair.pair-index c.pair-item.result c.loop-pair-test.true c.pair-item.is c.loop-pair.invariant
    (λ p. not_both _ (c.is_vouched.ensures.1 p) c.if-is_vouched.false)

pub returns : goal.returns
returns c =
    (λ t. absurd (not_both _ t refl), λ h. absurd (none_any (IsVouched c.args.key.now c.args.item.now) c.args.pairs.now c.loop-pair.pair-index c.loop-pair-test.false c.loop-pair.invariant h))
