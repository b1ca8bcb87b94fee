use Rattle.cert_vouchers.specs.Vouching.{VouchesBy}
use Rattle.cert_judge.proofs.RowFacts.{RowsUpTo}
use Rattle.cert_vouchers.proofs.remembered.RememberedVouchersVouch.vouched_by_each.Given as goal

abbrev pub invariant-loop-key : goal.invariant-loop-key
invariant-loop-key l = RowsUpTo (VouchesBy l.self.vouchers.now.pairs) l.keys l.items l.chosen l.key-index l.rows.items
