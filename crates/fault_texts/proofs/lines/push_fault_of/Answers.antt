use Rattle.std.proofs.Common.{string_bytes}
use Rattle.fault_texts.proofs.FaultFacts.{line_there, line_absent}
use Rattle.fault_texts.proofs.lines.push_fault_of.Goals as goal

pub returns-in_ok-push_line : goal.returns-in_ok-push_line
returns-in_ok-push_line c =
    let found = c.in_ok-fault in
    line_there c.args.whose c.args.k c.args.item.now found.field-0 c.in-Some.fault (string_bytes c.args.text.now) (string_bytes c.push_line.new.text) c.in-Some.is found.ensures.exact found.ensures.first c.in_ok-push_line.ensures

pub returns-in_default : goal.returns-in_default
returns-in_default c =
    let found = c.in_ok-fault in
    line_absent c.args.whose c.args.k c.args.item.now found.field-0 (string_bytes c.args.text.now) c.in_default.not-Some found.ensures.exact
