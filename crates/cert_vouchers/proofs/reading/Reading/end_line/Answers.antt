use Rattle.std.proofs.Common.{◌≡◌, ◌∙◌, ap, subst, [], ◌∷◌}
use Rattle.cert_vouchers.specs.VoucherFile as file
use Rattle.cert_vouchers.specs.Answers.{RefusesLine}
use Rattle.cert_vouchers.specs.Reader.{Refuses}
use Rattle.cert_vouchers.proofs.Progress.{OneMore, ends_line, bad_line, if_handed_on}
use Rattle.cert_vouchers.proofs.reading.Reading.end_line.Goals as goal

pub returns-in_err-push_line-clause-refused : goal.returns-in_err-push_line-clause-refused
returns-in_err-push_line-clause-refused c =
    let old = c.args.self.now in
    let e = c.in_err-push_line.field-0.0 in
    let line : c.without_return.result.now ≡ file.without_return old.line.items = c.without_return.ensures ∙ ap file.without_return c.deref.ensures.value in
    if_handed_on c.from_residual.result e (Refuses old (10 ∷ [])) c.from_residual.ensures.1 (bad_line old e (subst (λ l. RefusesLine l old.number e) line c.in_err-push_line.ensures.refused))

pub returns-clause-ok : goal.returns-clause-ok
returns-clause-ok c = λ text s.
    let old = c.args.self.now in
    let new = c.push_line.new.vouchers in
    let line : c.without_return.result.now ≡ file.without_return old.line.items = c.without_return.ensures ∙ ap file.without_return c.deref.ensures.value in
    ends_line old (record { vouchers = new; line = c.clear.new.self; number = c.in-Some.next }) text (subst file.IsWell line c.in_ok-push_line.ensures.well)
    (subst (OneMore old.vouchers new) line c.in_ok-push_line.ensures.pairs) c.in-Some.ensures.1 c.clear.ensures.items s
