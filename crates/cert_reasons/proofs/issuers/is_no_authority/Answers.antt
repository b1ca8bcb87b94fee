use Rattle.std.proofs.Common.{refl}
use Rattle.cert_model.specs.Extended.{SomeUnder}
use Rattle.cert_judge.proofs.Mapped.{not_both}
use Rattle.cert_reasons.proofs.issuers.is_no_authority.Goals as goal

pub returns-in-Some : goal.returns-in-Some
unfolding SomeUnder
returns-in-Some c =
    let s = c.in-Some.ensures.found in
    (λ t. absurd (not_both _ t refl), λ h. absurd (h (s.0, s.1, s.2, (s.3.0, s.3.1, s.3.2))))
