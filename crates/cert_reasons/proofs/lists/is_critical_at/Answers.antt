use Rattle.std.proofs.Common.{◌≡◌, true}
use Rattle.cert_model.specs.Fields.{Extension}
use Rattle.cert_model.specs.View.{ext_view}
use Rattle.cert_reasons.proofs.Certain.{viewed_by}
use Rattle.cert_reasons.proofs.lists.is_critical_at.Goals as goal

pub returns-in-Some : goal.returns-in-Some
returns-in-Some c =
    let l = c.in-Some.ensures.lookup in
    let v = viewed_by ext_view c.args.extensions.now c.args.place c.in-Some.extension.now l.3.0 l.1 (λ (e : Extension). e.critical ≡ true) in
    (λ t. v.0 (c.is_critical.ensures.0 t), λ h. c.is_critical.ensures.1 (v.1 h))
