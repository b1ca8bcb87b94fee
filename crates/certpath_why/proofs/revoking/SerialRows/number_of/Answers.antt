use Rattle.std.proofs.Common.{◌∙◌, sym, subst}
use Rattle.certpath_why.specs.RevokingRows.{IsRowOf}
use Rattle.certpath_why.specs.SerialRows.{IsSerialKey}
use Rattle.certpath_why.proofs.Rowed.{row_new, row_without, rows_pushed, rows_same, serials_more}
use Rattle.certpath_why.proofs.Tailing.{some_first}
use Rattle.certpath_why.proofs.revoking.SerialRows.number_of.Goals as goal

pub returns-in_default-clause-kept : goal.returns-in_default-clause-kept
returns-in_default-clause-kept c = rows_same c.args.self.now.rows.items

pub returns-in_default-clause-number : goal.returns-in_default-clause-number
returns-in_default-clause-number c = row_without c.args.found.now.items.now c.args.policy.now.moment c.args.certificate.now c.args.self.now c.lists.result.now c.lists.ensures c.in_default.ensures.value c.requires.rows

pub returns-in-Some-get-clause-kept : goal.returns-in-Some-get-clause-kept
returns-in-Some-get-clause-kept c = rows_same c.args.self.now.rows.items

pub returns-in-Some-get-clause-number : goal.returns-in-Some-get-clause-number
returns-in-Some-get-clause-number c =
    let first = c.in-Some.first.now in
    let is : IsSerialKey c.args.found.now.items.now c.args._place c.args.certificate.now c.in_ok-key.key.items = (first, (c.lists.ensures.exact first).0 (some_first c.lists.result.now first c.in-Some.ensures.value), c.in_ok-key.ensures) in
    c.requires.rows.by_serial c.in_ok-key.key c.in-Some-get.number.now (sym c.in-Some-get.ensures.value) c.args._place c.args.certificate.now c.requires.at is

pub returns-clause-rows : goal.returns-clause-rows
returns-clause-rows c =
    let first = c.in-Some.first.now in
    let is : IsSerialKey c.args.found.now.items.now c.args._place c.args.certificate.now c.in_ok-key.key.items = (first, (c.lists.ensures.exact first).0 (some_first c.lists.result.now first c.in-Some.ensures.value), c.in_ok-key.ensures) in
    serials_more c.args.found.now.items.now c.args.policy.now.moment c.args.self.now (record { rows = c.push.new.self; by_serial = c.insert.new.self }) c.args._place c.args.certificate.now c.in_ok-key.key c.in_ok-row.row c.requires.rows is
    c.in_ok-push.ensures.items c.in_ok-row.ensures (λ q. rw (c.len-number.ensures ∙ c.args.self.now.rows.ok.0) at c.in_ok-insert.ensures.updates.0 q)

pub returns-clause-kept : goal.returns-clause-kept
returns-clause-kept c = rows_pushed c.args.self.now.rows.items c.push.new.self.items c.in_ok-row.row c.in_ok-push.ensures.items

pub returns-clause-number : goal.returns-clause-number
returns-clause-number c =
    let x = c.args.certificate.now in
    let xs = c.args.found.now.items.now in
    let moment = c.args.policy.now.moment in
    subst (IsRowOf xs moment c.push.new.self.items x) (sym (c.len-number.ensures ∙ c.args.self.now.rows.ok.0)) (row_new xs moment c.args.self.now.rows.items c.push.new.self.items x c.in_ok-row.row c.in_ok-push.ensures.items c.in_ok-row.ensures)
