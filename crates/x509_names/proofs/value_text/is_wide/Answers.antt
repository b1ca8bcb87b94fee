use Rattle.std.proofs.Common.{sym}
use Rattle.x509_names.proofs.WideLaws.{wide_told, wide_missing}
use Rattle.x509_names.proofs.value_text.is_wide.Goals as goal

pub returns-in-Ok : goal.returns-in-Ok
returns-in-Ok c = sym (wide_told c.args.content.now c.in-Ok.ensures)

pub returns-in-Err : goal.returns-in-Err
returns-in-Err c = sym (wide_missing c.args.content.now c.in-Err.ensures.1)
