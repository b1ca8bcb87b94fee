use Rattle.std.proofs.Common.{◌∙◌, ap}
use Rattle.certpath_find.proofs.key_ids.content_under.Goals as goal

pub returns-in_default-clause-only : goal.returns-in_default-clause-only
returns-in_default-clause-only c = λ content h.
    let x = c.from_der.ensures.only h.element h.rest h.begins in
    let y = rw c.in_default.is at x in absurd y

pub returns-clause-only : goal.returns-clause-only
returns-clause-only c = λ content h.
    let x = c.in-Ok.ensures.only h.element h.rest h.begins in
    ap (λ z. z.content) x.0 ∙ h.holds
