use Rattle.std.proofs.Common.{◌≡◌}
use Rattle.cert_model.specs.Fields.{Extension}
use Rattle.cert_model.specs.Extended.{basic_constraints}
use Rattle.cert_judge.specs.Judging.{HasConstraints}
use Rattle.cert_reasons.proofs.Certain.{viewed_at}
use Rattle.cert_reasons.proofs.certificates.has_bad_constraints.Goals as goal

pub returns-in-Some : goal.returns-in-Some
returns-in-Some c =
    let l = c.in-Some.ensures.lookup in
    let v = viewed_at c.args.extensions.now c.args.place c.in-Some.extension.now l.3.0 l.1 (λ (e : Extension). (e.identifier ≡ basic_constraints) × (HasConstraints e.value → ⊥)) in
    (λ t. v.0 (c.is_bad_constraints.ensures.0 t), λ h. c.is_bad_constraints.ensures.1 (v.1 h))
