use Rattle.std.proofs.Common.{◌∙◌, sym, []}
use Rattle.std.proofs.lemmas.List.{append-nil}
use Rattle.cert_model.proofs.parts.whole.Goals as goal

pub returns-in_err-content-clause-only : goal.returns-in_err-content-clause-only
returns-in_err-content-clause-only c = λ content e.
    let x = c.part.ensures.only content [] (e ∙ sym (append-nil _)) in
    let y = rw c.in_err-content.was at x in absurd y

pub returns-else-is_empty-clause-only : goal.returns-else-is_empty-clause-only
returns-else-is_empty-clause-only c = λ content e.
    let x = c.in_ok-content.ensures.only content [] (e ∙ sym (append-nil _)) in
    let z = rw x.1 at c.is_empty.ensures in cc
