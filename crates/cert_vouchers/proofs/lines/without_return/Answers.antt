use Rattle.std.proofs.Common.{sym, ap, ◌∙◌, ◌++◌, ◌∷◌, []}
use Rattle.cert_vouchers.specs.VoucherFile as file
use Rattle.cert_vouchers.proofs.LineFacts.{without_one, without_other}
use Rattle.cert_vouchers.proofs.lines.without_return.Goals as goal

pub returns-then-last-eq13 : goal.returns-then-last-eq13
returns-then-last-eq13 c =
    let front = c.in-Some.front.now in
    sym (ap file.without_return (c.in-Some.ensures.cases.0 ∙ ap (λ n. front ++ n ∷ []) c.if-last-eq13.true) ∙ without_one front)

pub returns-else-last-eq13 : goal.returns-else-last-eq13
returns-else-last-eq13 c =
    let is = c.in-Some.ensures.cases.0 in
    is ∙ sym (ap file.without_return is ∙ without_other c.in-Some.front.now c.in-Some.last.now c.if-last-eq13.false)
