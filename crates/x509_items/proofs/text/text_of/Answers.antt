use Rattle.std.proofs.Common.{◌∙◌, sym, ap, Ok}
use Rattle.x509_items.proofs.TextLaws.{text_only, text_refused}
use Rattle.x509_items.proofs.text.text_of.Goals as goal

pub returns-in-Ok-clause-read : goal.returns-in-Ok-clause-read
returns-in-Ok-clause-read c =
    let is = c.in-Ok.ensures.cases in
    text_only c.args.content.now is.1 ∙ ap (λ t. Ok t) (sym is.0)

pub returns-in-Err-clause-read : goal.returns-in-Err-clause-read
returns-in-Err-clause-read c = (λ e. cc, text_refused c.args.content.now c.in-Err.ensures.cases.0)
