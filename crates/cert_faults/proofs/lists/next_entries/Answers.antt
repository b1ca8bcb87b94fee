use Rattle.std.proofs.Common.{sym, ap}
use Rattle.der_tree.specs.View.{view, views}
use Rattle.cert_faults.proofs.EntryLaws.{entry_failed}
use Rattle.cert_faults.proofs.lists.next_entries.Goals as goal

pub returns-in-Err-each_entry_fault : goal.returns-in-Err-each_entry_fault
returns-in-Err-each_entry_fault c =
    entry_failed c.args.version c.args.at.left c.inside.result c.in-Err-each_entry_fault.blame (views c.args.at.parts.now) (views c.in-Some.rest.now) (view c.in-Some.object.now)
    (views c.in-Ok.parts.now.items) (views c.as_slice.result.now) c.whole.result _
    (sym c.in-Some.ensures) c.in-Ok.ensures c.whole.ensures c.inside.ensures (ap views c.as_slice.ensures.value) c.in_ok-first-in-Ok.ensures (sym c.in-Err-each_entry_fault.ensures)
