use Rattle.cert_model.specs.Fields.{Entry}
use Rattle.cert_model.specs.View.{entry_view}
use Rattle.cert_judge.specs.Revoking.{AreUncritical}
use Rattle.cert_reasons.proofs.Certain.{viewed_by}
use Rattle.cert_reasons.proofs.lists.has_critical_at.Goals as goal

pub returns-in-Some : goal.returns-in-Some
returns-in-Some c =
    let l = c.in-Some.ensures.lookup in
    let v = viewed_by entry_view c.args.entries.now c.args.place c.in-Some.entry.now l.3.0 l.1 (λ (n : Entry). AreUncritical n.extensions → ⊥) in
    (λ t. v.0 (c.has_critical.ensures.0 t), λ h. c.has_critical.ensures.1 (v.1 h))
