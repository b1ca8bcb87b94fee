use Rattle.std.proofs.Common.{string_bytes}
use Rattle.fault_texts.proofs.FaultFacts.{on_ok, own_added}
use Rattle.fault_texts.proofs.lines.push_own.Goals as goal

pub returns-in-Other : goal.returns-in-Other
returns-in-Other c =
    on_ok c.push_fault_of.result _ _ (own_added c.args.item.now c.in-Other.octets c.args.target (string_bytes c.args.text.now) (string_bytes c.push_fault_of.new.text) c.in-Other.is) c.push_fault_of.ensures
