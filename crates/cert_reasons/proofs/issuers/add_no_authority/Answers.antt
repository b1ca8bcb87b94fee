use Rattle.cert_model.specs.View.{certificate_view}
use Rattle.cert_reasons.specs.Issuers.{HasIssuerReason, issuer_order}
use Rattle.cert_reasons.proofs.Ordered.{up_next}
use Rattle.cert_reasons.proofs.OfIssuers.{authority_place}
use Rattle.cert_reasons.proofs.issuers.add_no_authority.Goals as goal

pub returns : goal.returns
returns c =
    up_next issuer_order (HasIssuerReason (certificate_view c.args.fields.now)) c.add.new.found.items 0 1 c.in_ok-add.ensures (λ r s e. authority_place r e)
