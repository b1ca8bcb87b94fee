use Rattle.std.proofs.Common.{string_bytes}
use Rattle.fault_texts.proofs.FaultFacts.{on_ok, target_read, target_missing}
use Rattle.fault_texts.proofs.lines.push_target.Goals as goal

pub returns-in-Some : goal.returns-in-Some
returns-in-Some c =
    let found = c.in-Some.ensures.lookup in
    on_ok c.push_own.result _ _ (target_read c.args.items.now c.args.target c.in-Some.item.now (string_bytes c.args.text.now) (string_bytes c.push_own.new.text) found.3.0 found.1) c.push_own.ensures

pub returns-in-None : goal.returns-in-None
returns-in-None c = target_missing c.args.items.now c.args.target (string_bytes c.args.text.now) c.in-None.ensures.lookup.3
