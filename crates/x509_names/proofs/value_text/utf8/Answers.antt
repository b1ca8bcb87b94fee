use Rattle.std.proofs.Common.{◌∙◌, sym, ap, Some}
use Rattle.x509_names.proofs.TextLaws.{utf8_told, utf8_missing}
use Rattle.x509_names.proofs.value_text.utf8.Goals as goal

pub returns-in-Ok : goal.returns-in-Ok
returns-in-Ok c =
    let is = c.in-Ok.ensures.cases in
    ap (λ t. Some t) is.0 ∙ sym (utf8_told c.args.content.now is.1)

pub returns-in-Err : goal.returns-in-Err
returns-in-Err c = sym (utf8_missing c.args.content.now c.in-Err.ensures.cases.0)
