use Rattle.std.proofs.Common.{◌≡◌}
use Rattle.cert_model.specs.Fields.{Extension}
use Rattle.cert_model.specs.Extended.{key_usage}
use Rattle.cert_judge.specs.Judging.{HasUsage}
use Rattle.cert_reasons.proofs.Certain.{viewed_at}
use Rattle.cert_reasons.proofs.certificates.has_bad_usage.Goals as goal

pub returns-in-Some : goal.returns-in-Some
returns-in-Some c =
    let l = c.in-Some.ensures.lookup in
    let v = viewed_at c.args.extensions.now c.args.place c.in-Some.extension.now l.3.0 l.1 (λ (e : Extension). (e.identifier ≡ key_usage) × (HasUsage e.value → ⊥)) in
    (λ t. v.0 (c.is_bad_usage.ensures.0 t), λ h. c.is_bad_usage.ensures.1 (v.1 h))
