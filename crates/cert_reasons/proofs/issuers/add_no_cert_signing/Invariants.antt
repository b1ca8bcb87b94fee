use Rattle.cert_model.specs.View.{certificate_view}
use Rattle.cert_reasons.specs.Issuers.{HasIssuerReason, issuer_order}
use Rattle.cert_reasons.specs.Order.{AreUpTo}
use Rattle.cert_reasons.proofs.issuers.add_no_cert_signing.Given as goal

abbrev pub invariant-loop-place : goal.invariant-loop-place
invariant-loop-place l = AreUpTo issuer_order (HasIssuerReason (certificate_view l.fields)) (1, l.place) l.found.items
