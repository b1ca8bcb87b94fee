use Rattle.std.proofs.Common.{◌∷◌}
use Rattle.cert_judge.proofs.usage.signs_by.Goals as goal

pub returns-in_err-content-clause-only : goal.returns-in_err-content-clause-only
returns-in_err-content-clause-only c = λ b p.
    let x = c.whole.ensures.only (b.unused ∷ b.octets) p.spelled in
    let y = rw c.in_err-content.was at x in absurd y
