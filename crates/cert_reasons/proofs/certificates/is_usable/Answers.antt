use Rattle.std.proofs.Common.{refl}
use Rattle.cert_model.specs.View.{time_view, certificate_view}
use Rattle.cert_judge.proofs.Mapped.{not_both}
use Rattle.cert_judge.proofs.FurtherFacts.{usable_apart}
use Rattle.cert_reasons.proofs.certificates.is_usable.Goals as goal

pub returns-then-judged : goal.returns-then-judged
returns-then-judged g c =
    let i = usable_apart ((g.V.Vouch.vouches_for c.args.vouch.now).Processes c.args.item.now) (time_view c.args.moment.now) (certificate_view c.args.fields.now) in
    let all = rw c.deref.ensures.value at c.are_processed.ensures in
    (λ t. i.1 (c.in_ok-judged.ensures.usable.0 c.if-judged.true, all.0 t), λ u. all.1 (i.0 u).1)

pub returns : goal.returns
returns g c =
    let i = usable_apart ((g.V.Vouch.vouches_for c.args.vouch.now).Processes c.args.item.now) (time_view c.args.moment.now) (certificate_view c.args.fields.now) in
    (λ t. absurd (not_both _ t refl), λ u. absurd (not_both _ (c.in_ok-judged.ensures.usable.1 (i.0 u).0) c.if-judged.false))
