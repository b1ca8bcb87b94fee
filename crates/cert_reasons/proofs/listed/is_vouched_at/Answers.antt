use Rattle.cert_judge.specs.Items.{IsListWith}
use Rattle.cert_reasons.specs.Listed.{IsVouched}
use Rattle.cert_reasons.proofs.Marks.{there_at}
use Rattle.cert_reasons.proofs.listed.is_vouched_at.Goals as goal

pub returns-in-Some : goal.returns-in-Some
returns-in-Some g c =
    let l = c.in-Some.ensures.lookup in
    let v = there_at c.args.items.now c.args.place c.in-Some.item.now l.3.0 l.1 (IsListWith (IsVouched (g.V.Vouch.vouches_for c.args.vouch.now) c.args.key.now)) in
    (λ t. v.0 (c.is_vouched.ensures.0 t), λ h. c.is_vouched.ensures.1 (v.1 h))
