use Rattle.std.proofs.Common.{arith, string_bytes}
use Rattle.cert_judge.specs.Items.{item_of}
use Rattle.fault_texts.proofs.FaultFacts.{anchor_over, anchor_added}
use Rattle.fault_texts.proofs.lines.push_anchor.Goals as goal

pub returns-then-left-eq0 : goal.returns-then-left-eq0
returns-then-left-eq0 c = anchor_over c.args.k c.args.left (item_of c.args.item.now) (string_bytes c.args.text.now) c.if-left-eq0.true

pub returns-in_ok-push_fault_of-in-Other : goal.returns-in_ok-push_fault_of-in-Other
returns-in_ok-push_fault_of-in-Other c =
    anchor_added c.args.k c.args.left c.in-Other.octets c.args.item.now (string_bytes c.args.text.now) (string_bytes c.push_fault_of.new.text) (omega (arith, c.if-left-eq0.false)) c.in-Other.is c.in_ok-push_fault_of-in-Other.ensures
