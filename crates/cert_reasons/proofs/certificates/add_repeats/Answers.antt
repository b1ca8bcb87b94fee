use Rattle.cert_model.specs.View.{time_view, certificate_view}
use Rattle.cert_reasons.specs.Certificates.{IsRepeat, HasReason, order_of}
use Rattle.std.specs.Prelude.{◌↔◌, IsTrue}
use Rattle.std.proofs.Common.{◌<◌, ◌≤◌, Bool, sym, subst, map, length, arith}
use Rattle.std.proofs.lemmas.List.{length-map}
use Rattle.cert_model.specs.View.{ext_view}
use Rattle.cert_reasons.proofs.Ordered.{up_next}
use Rattle.cert_reasons.proofs.Certain.{extension_place}
use Rattle.cert_reasons.proofs.certificates.add_repeats.Goals as goal

pub add_if-requires-clause-applies : goal.add_if-requires-clause-applies
add_if-requires-clause-applies g c =
    let es = c.args.fields.now.extensions.items in
    let marked = rw c.deref.ensures.value at c.in_ok-repeats.ensures in
    let count = marked.count in
    let below = c.loop-place-test.true in
    let lt : c.loop-place.place < length es = omega arith in
    subst (λ (b : Bool). IsTrue b ↔ IsRepeat (map ext_view es) c.loop-place.place) (sym c.index-applies.ensures) (marked.each c.loop-place.place c.index-applies.result.now lt)

pub returns : goal.returns
returns g c =
    let long = length-map c.args.fields.now.extensions.items ext_view in
    let view = certificate_view c.args.fields.now in
    let marked = rw c.deref.ensures.value at c.in_ok-repeats.ensures in
    let count = marked.count in
    let end : length view.extensions ≤ c.loop-place.place = omega arith in
    up_next order_of (HasReason ((g.V.Vouch.vouches_for c.args.vouch.now).Processes c.args.item.now) (time_view c.args.moment.now) view) c.loop-place.found.items 2 c.loop-place.place c.loop-place.invariant
    (λ r s e. extension_place ((g.V.Vouch.vouches_for c.args.vouch.now).Processes c.args.item.now) (time_view c.args.moment.now) view r c.loop-place.place 2 s e (omega arith) end)
