use Rattle.cert_model.specs.Fields.{Extension}
use Rattle.cert_judge.specs.Judging.{IsProcessed}
use Rattle.cert_reasons.proofs.Certain.{viewed_at, not_iff}
use Rattle.cert_reasons.proofs.certificates.is_unprocessed.Goals as goal

pub returns-in-Some : goal.returns-in-Some
returns-in-Some g c =
    let l = c.in-Some.ensures.lookup in
    let v = viewed_at c.args.extensions.now c.args.place c.in-Some.extension.now l.3.0 l.1 (λ (e : Extension). IsProcessed ((g.V.Vouch.vouches_for c.args.vouch.now).Processes c.args.item.now) e → ⊥) in
    let n = not_iff c.is_processed.result c.is_processed.ensures in
    (λ t. v.0 (n.0 t), λ h. n.1 (v.1 h))
