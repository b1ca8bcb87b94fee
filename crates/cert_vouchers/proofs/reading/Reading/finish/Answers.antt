use Rattle.std.proofs.Common.{subst}
use Rattle.cert_vouchers.specs.VoucherFile.{IsWell}
use Rattle.cert_vouchers.specs.Answers.{RefusesLine}
use Rattle.cert_vouchers.proofs.Progress.{OneMore, all_read, bad_end, handed_on}
use Rattle.cert_vouchers.proofs.reading.Reading.finish.Goals as goal

pub returns-in_err-push_line : goal.returns-in_err-push_line
returns-in_err-push_line c = λ text s.
    let old = c.args.self in
    let e = c.in_err-push_line.field-0.0 in
    handed_on text e c.from_residual.result (bad_end old e text (subst (λ l. RefusesLine l old.number e) c.deref.ensures.value c.in_err-push_line.ensures.refused) s) c.from_residual.ensures.1

pub returns : goal.returns
returns c = λ text s.
    let old = c.args.self in
    let new = c.push_line.new.vouchers in
    all_read old new text (subst IsWell c.deref.ensures.value c.in_ok-push_line.ensures.well) (subst (OneMore old.vouchers new) c.deref.ensures.value c.in_ok-push_line.ensures.pairs) s
