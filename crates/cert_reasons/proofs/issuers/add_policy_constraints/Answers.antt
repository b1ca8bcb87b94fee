use Rattle.cert_model.specs.View.{certificate_view}
use Rattle.cert_reasons.specs.Issuers.{HasIssuerReason, issuer_order}
use Rattle.std.proofs.Common.{◌≤◌, length, arith}
use Rattle.std.proofs.lemmas.List.{length-map}
use Rattle.cert_model.specs.View.{ext_view}
use Rattle.cert_reasons.proofs.Ordered.{up_next}
use Rattle.cert_reasons.proofs.OfIssuers.{extension_place}
use Rattle.cert_reasons.proofs.issuers.add_policy_constraints.Goals as goal

pub returns : goal.returns
returns c =
    let long = length-map c.args.fields.now.extensions.items ext_view in
    let view = certificate_view c.args.fields.now in
    let over = rw c.as_slice-extensions.ensures.value at c.loop-place-test.false in
    let end : length view.extensions ≤ c.loop-place.place = omega arith in
    up_next issuer_order (HasIssuerReason view) c.loop-place.found.items 3 c.loop-place.place c.loop-place.invariant
    (λ r s e. extension_place view r c.loop-place.place 3 s e (omega arith) end)
