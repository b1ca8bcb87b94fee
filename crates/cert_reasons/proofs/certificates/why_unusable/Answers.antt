use Rattle.cert_model.specs.View.{time_view, certificate_view}
use Rattle.cert_reasons.specs.Certificates.{HasReason, order_of}
use Rattle.cert_judge.proofs.Mapped.{not_both}
use Rattle.cert_reasons.proofs.Ordered.{up_all}
use Rattle.cert_judge.specs.Judging.{IsUsable}
use Rattle.cert_reasons.proofs.Certain.{kinds_end, all_of_usable, none_stands, not_unusable}
use Rattle.cert_reasons.proofs.certificates.why_unusable.Goals as goal

pub returns-then-usable-clause-all : goal.returns-then-usable-clause-all
returns-then-usable-clause-all g c =
    rw c.new-found.ensures.items (all_of_usable ((g.V.Vouch.vouches_for c.args.vouch.now).Processes c.args.item.now) (time_view c.args.moment.now) (certificate_view c.args.fields.now) (c.in_ok-usable.ensures.0 c.if-usable.true))

pub returns-clause-all : goal.returns-clause-all
returns-clause-all g c =
    up_all order_of (HasReason ((g.V.Vouch.vouches_for c.args.vouch.now).Processes c.args.item.now) (time_view c.args.moment.now) (certificate_view c.args.fields.now)) c.add_bad_usage.new.found.items 6 c.in_ok-add_bad_usage.ensures kinds_end

pub returns-clause-none : goal.returns-clause-none
returns-clause-none g c =
    let P = ((g.V.Vouch.vouches_for c.args.vouch.now).Processes c.args.item.now) in
    let m = time_view c.args.moment.now in
    let f = certificate_view c.args.fields.now in
    let all = up_all order_of (HasReason P m f) c.add_bad_usage.new.found.items 6 c.in_ok-add_bad_usage.ensures kinds_end in
    let unfit : IsUsable P m f → ⊥ = λ u. not_both _ (c.in_ok-usable.ensures.1 u) c.if-usable.false in
    (λ e. absurd (not_unusable P m f (none_stands P m f c.add_bad_usage.new.found.items all e) unfit), λ u. absurd (unfit u))
