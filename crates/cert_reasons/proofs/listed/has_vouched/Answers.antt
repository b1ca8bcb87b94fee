use Rattle.std.proofs.Common.{refl, sym, get_or}
use Rattle.std.proofs.lemmas.List.{get_or_default}
use Rattle.cert_judge.proofs.Mapped.{none_any, none_step, not_both}
use Rattle.cert_reasons.specs.Listed.{IsVouchedAt}
use Rattle.cert_reasons.proofs.listed.has_vouched.Goals as goal

pub returns-then-is_vouched_at : goal.returns-then-is_vouched_at
returns-then-is_vouched_at g c = (
  λ t.
      let k = c.loop-place.place-index in
      let p = get_or c.args.lists.now k 0 in
      (k, p, c.loop-place-test.true, sym (get_or_default c.args.lists.now k 0 p c.loop-place-test.true), c.is_vouched_at.ensures.0 c.if-is_vouched_at.true),
  λ h. refl,
)

pub loop-place-preserved : goal.loop-place-preserved
loop-place-preserved g c =
    let C = IsVouchedAt (g.V.Vouch.vouches_for c.args.vouch.now) c.args.items.now c.args.key.now in
    let k = c.loop-place.place-index in
    let p = get_or c.args.lists.now k 0 in
    none_step C c.args.lists.now k p c.loop-place-test.true (get_or_default c.args.lists.now k 0 p c.loop-place-test.true) c.loop-place.invariant (λ v. not_both _ (c.is_vouched_at.ensures.1 v) c.if-is_vouched_at.false)

pub returns : goal.returns
returns g c = (
  λ t. absurd (not_both _ t refl),
  λ h. absurd (none_any (IsVouchedAt (g.V.Vouch.vouches_for c.args.vouch.now) c.args.items.now c.args.key.now) c.args.lists.now c.loop-place.place-index c.loop-place-test.false c.loop-place.invariant h),
)
