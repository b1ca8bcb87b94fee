use Rattle.std.proofs.Common.{refl}
use Rattle.example_path.specs.Vouching.{IsVouched}
use Rattle.cert_judge.proofs.Mapped.{any_found, none_step, none_any, not_both}
use Rattle.example_path.proofs.verified.are_vouched.Goals as goal

pub returns-then-is_vouched : goal.returns-then-is_vouched
returns-then-is_vouched c =
    let P = IsVouched c.args.key.now c.args.item.now in
    (λ t. any_found P c.args.signatures.now c.loop-signature.signature-index c.signature-item.result c.loop-signature-test.true c.signature-item.is (c.is_vouched.ensures.0 c.if-is_vouched.true), λ h. refl)

pub loop-signature-preserved : goal.loop-signature-preserved
loop-signature-preserved c =
    none_step (IsVouched c.args.key.now c.args.item.now) c.args.signatures.now c.loop-signature.signature-index c.signature-item.result c.loop-signature-test.true c.signature-item.is c.loop-signature.invariant
    (λ p. not_both _ (c.is_vouched.ensures.1 p) c.if-is_vouched.false)

pub returns : goal.returns
returns c =
    (λ t. absurd (not_both _ t refl), λ h. absurd (none_any (IsVouched c.args.key.now c.args.item.now) c.args.signatures.now c.loop-signature.signature-index c.loop-signature-test.false c.loop-signature.invariant h))
