use Rattle.std.specs.BTreeSet as sorted
use Rattle.cert_reasons.specs.Rows.{row_cmp}
use Rattle.cert_reasons.proofs.Rowed.{row_added, word}
use Rattle.cert_reasons.proofs.rows.add_row.Goals as goal

pub returns : goal.returns
returns c = λ s p. row_added c.args.serial.now s c.args.place p (sorted.contains row_cmp c.args.rows.now (word s, p)) (sorted.contains row_cmp c.insert.new.self (word s, p)) (c.in_ok-insert.ensures.updates.0 (word s, p))
